use Prim.Native.Nat.{◌-◌}
use Rattle.balanced_region.specs.Unmatched.{Passing}
use Rattle.balanced_region.proofs.depths_before.Given as goal

abbrev pub invariant-loop-d : goal.invariant-loop-d
invariant-loop-d l = Passing l.source.tape.now l.source.nodes l.bound.0 l.d

abbrev pub decreases-loop-d : goal.decreases-loop-d
decreases-loop-d l = l.source.nodes.count - l.d.count
