use Rattle.std.proofs.Common.{◌≤◌, length}
use Rattle.dependency.proofs.first_places.Given as goal

abbrev pub invariant-loop-i : goal.invariant-loop-i
invariant-loop-i g l = l.m ≤ length l.initial.places
