use Rattle.std.proofs.Common.{◌≡◌}
use Rattle.wire.specs.Loops.{sum_to}
use Rattle.places.specs.Runs.{capped, length_at}
use Rattle.places.proofs.strings_length.Given as goal

abbrev pub invariant-loop-i : goal.invariant-loop-i
invariant-loop-i l = l.total ≡ capped l.room (sum_to l.i (length_at l.tape l.at))
