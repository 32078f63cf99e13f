use Rattle.memo.specs.Memo.{entry_in}
use Rattle.sizes.proofs.with_entry.Goals as goal

pub returns : goal.returns
unfolding entry_in
returns c =
    c.less.ensures
