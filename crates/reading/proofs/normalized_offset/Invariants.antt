use Rattle.reading.specs.Until.{Summed}
use Rattle.reading.proofs.normalized_offset.Given as goal

abbrev pub invariant-loop-i : goal.invariant-loop-i
invariant-loop-i l = Summed l.tape l.nodes.at l.n l.i l.before.images l.before.spans
