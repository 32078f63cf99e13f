use Rattle.reading.specs.Balance.{Balanced}
use Rattle.reading.proofs.balanced_nodes.Given as goal

abbrev pub invariant-loop-i : goal.invariant-loop-i
invariant-loop-i l = Balanced l.tape l.nodes.at l.nodes.count l.i l.depths.blocks l.depths.warichu
