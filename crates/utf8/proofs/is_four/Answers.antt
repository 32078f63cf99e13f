use mathlib.Core.Path.{refl}
use Rattle.utf8.proofs.is_four.Goals as goal

pub returns : goal.returns
returns c =
    rw (c.within.ensures, c.within-2.ensures, c.within-3.ensures, c.within-4.ensures, c.within-5.ensures) refl
