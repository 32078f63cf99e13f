use Rattle.bounds.specs.Search.{start_of, Split}
use Prim.Native.Nat.{◌-◌}
use Rattle.bounds.proofs.starts_by.Given as goal

abbrev pub invariant-loop-lo : goal.invariant-loop-lo
invariant-loop-lo l = Split (start_of l.tape l.nodes.at) l.nodes.count l.offset.0 l.lo l.hi

abbrev pub decreases-loop-lo : goal.decreases-loop-lo
decreases-loop-lo l = l.hi - l.lo
