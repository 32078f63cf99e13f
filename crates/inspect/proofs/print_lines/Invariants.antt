-- The line keeps its room, and the numbers of the cursor stay small.
use Rattle.std.proofs.Common.{◌≤◌, ◌-◌, length}
use Rattle.lines.specs.Put.{room}
use Rattle.listing.specs.Walk.{Counted}
use Rattle.inspect.proofs.print_lines.Given as goal

abbrev pub invariant-loop-c : goal.invariant-loop-c
invariant-loop-c g l = (3932866 ≤ room l.line) × Counted l.c

abbrev pub decreases-loop-c : goal.decreases-loop-c
decreases-loop-c g l = length l.tape - l.c.at
