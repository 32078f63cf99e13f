use Rattle.std.proofs.Common.{◌-◌}
use Rattle.representatives.specs.Bisection.{Split}
use Rattle.representatives.proofs.rank_of.Given as goal

abbrev pub invariant-loop-lo : goal.invariant-loop-lo
invariant-loop-lo l = Split l.words l.m l.id.0 l.lo l.hi

abbrev pub decreases-loop-lo : goal.decreases-loop-lo
decreases-loop-lo l = l.hi - l.lo
