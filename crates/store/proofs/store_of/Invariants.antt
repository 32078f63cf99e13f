use Rattle.store.specs.Stored.{Filling}
use Rattle.store.proofs.store_of.Given as goal

abbrev pub invariant-loop-i : goal.invariant-loop-i
invariant-loop-i l = Filling l.tape l.i l.at l.strings l.contents l.segments l.totals
