use Rattle.places.specs.Found.{Walked}
use Prim.Native.Nat.{◌-◌}
use lib.ListN.{length}
use Rattle.places.proofs.all_layers.Given as goal

abbrev pub invariant-loop-s : goal.invariant-loop-s
invariant-loop-s l = Walked l.tape l.room l.s

abbrev pub decreases-loop-s : goal.decreases-loop-s
decreases-loop-s l = length l.tape - l.s.end
