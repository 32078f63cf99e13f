use Rattle.cuts.specs.Gaps.{Upto}
use Rattle.cuts.proofs.Source.nodes_allow_cut.Given as goal

abbrev pub invariant-loop-i : goal.invariant-loop-i
invariant-loop-i l = Upto l.self.tape.now l.self.nodes l.o.0 l.i l.depths.blocks l.depths.warichu
