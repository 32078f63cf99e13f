use Prim.Native.Nat.{◌-◌, ◌≤◌}
use Rattle.interner.specs.Row.{far_in}
use Rattle.interner.proofs.Layer.far_place.Given as goal

abbrev pub invariant-loop-lo : goal.invariant-loop-lo
invariant-loop-lo l = (l.lo ≤ l.hi) × (l.hi ≤ far_in l.self.work.now)

abbrev pub decreases-loop-lo : goal.decreases-loop-lo
decreases-loop-lo l = l.hi - l.lo
