use Rattle.utf8.specs.Blocks.{is_odd}
use mathlib.Core.Path.{refl}
use Rattle.utf8.proofs.odd.Goals as goal

pub returns : goal.returns
unfolding is_odd
returns c =
    rw (c.within.ensures, c.within-2.ensures) refl
