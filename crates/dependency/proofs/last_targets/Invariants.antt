use Rattle.std.proofs.Common.{◌≤◌, length}
use Rattle.dependency.proofs.last_targets.Given as goal

abbrev pub invariant-loop-n : goal.invariant-loop-n
invariant-loop-n l = l.m ≤ length l.initial.places
