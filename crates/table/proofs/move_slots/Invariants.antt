use Rattle.table.specs.Moved.{Moved}
use Rattle.table.proofs.move_slots.Given as goal

abbrev pub invariant-loop-i : goal.invariant-loop-i
invariant-loop-i l = Moved l.strs l.initial.work l.count l.n l.work l.i
