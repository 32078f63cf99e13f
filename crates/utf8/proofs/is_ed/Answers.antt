use mathlib.Core.Path.{refl}
use Rattle.utf8.proofs.is_ed.Goals as goal

pub returns : goal.returns
returns c =
    rw (c.within.ensures, c.within-2.ensures) refl
