use Rattle.model.specs.Tape.{record_at, operands_at, pair_codec}
use Rattle.cuts.proofs.pair_start.Goals as goal

pub returns : goal.returns
unfolding record_at operands_at pair_codec
returns c =
    c.u32_at.ensures
