use Rattle.places.specs.Runs.{Counted}
use Prim.Native.Nat.{◌-◌}
use lib.ListN.{length}
use Rattle.places.proofs.count_at.Given as goal

abbrev pub invariant-loop-place : goal.invariant-loop-place
invariant-loop-place l = Counted l.command l.size l.tape l.at l.n l.place

abbrev pub decreases-loop-place : goal.decreases-loop-place
decreases-loop-place l = length l.tape - l.place
