use mathlib.Core.Path.{refl}
use Rattle.utf8.proofs.is_three.Goals as goal

pub returns : goal.returns
returns c =
    rw (c.within.ensures, c.within-2.ensures, c.within-3.ensures) refl
