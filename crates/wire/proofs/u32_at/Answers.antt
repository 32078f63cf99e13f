use Rattle.model.specs.Bytes.{word_at}
use Rattle.wire.proofs.u32_at.Goals as goal

pub returns : goal.returns
unfolding word_at
returns c =
    c.word.ensures
