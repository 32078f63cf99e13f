use Rattle.cuts.specs.Pairs.{reach, pairs_from}
use mathlib.Core.Path.{◌≡◌}
use Rattle.cuts.proofs.Source.reach.Given as goal

abbrev pub invariant-loop-i : goal.invariant-loop-i
invariant-loop-i l = l.far.0 ≡ reach (pairs_from l.self.tape.now l.self.pairs l.i) l.o.0
