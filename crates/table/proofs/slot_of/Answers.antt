use native.Mathlib.Nat.{mod-lt}
use mathlib.Core.Path.{refl}
use Rattle.table.proofs.slot_of.Goals as goal

pub returns : goal.returns
returns c =
    (refl, mod-lt _ c.requires)
