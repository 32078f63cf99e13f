use Rattle.bounds.specs.Walk.{Walked}
use Rattle.bounds.proofs.nodes_placed.Given as goal

abbrev pub invariant-loop-i : goal.invariant-loop-i
invariant-loop-i l = Walked l.tape l.nodes.at l.nodes.count l.text.0 l.i l.from.0 l.images l.spans
