use Rattle.model.specs.Intern.{empty_slot}
use mathlib.Core.Path.{◌≡◌}
use Prim.Native.Nat.{◌-◌, ◌<◌}
use lib.ListN.{length}
use Rattle.table.proofs.empty_slot.Given as goal

abbrev pub invariant-loop : goal.invariant-loop
invariant-loop l = (l.at < length l.table) × (empty_slot (length l.table - l.counter) l.table l.at ≡ empty_slot (length l.table) l.table l.from)
