use Rattle.cuts.specs.Window.{Rising}
use Rattle.cuts.proofs.run_up.Given as goal

abbrev pub invariant-loop-slot : goal.invariant-loop-slot
invariant-loop-slot l = Rising l.initial.slots l.slots l.slot-index l.far
