use Rattle.utf8.specs.Skips.{Skipped}
use Prim.Native.Nat.{◌-◌}
use lib.ListN.{length}
use Rattle.utf8.proofs.ed_end.Given as goal

abbrev pub invariant-loop-i : goal.invariant-loop-i
invariant-loop-i l = Skipped l.s l.at l.i

abbrev pub decreases-loop-i : goal.decreases-loop-i
decreases-loop-i l = length l.s - l.i
