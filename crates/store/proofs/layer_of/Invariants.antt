use Rattle.std.proofs.Common.{◌≡◌}
use Rattle.store.specs.Pools.{layer_of}
use Rattle.store.proofs.layer_of.Given as goal

abbrev pub invariant-loop-k : goal.invariant-loop-k
invariant-loop-k l = layer_of l.starts l.layers l.i ≡ layer_of l.starts l.k l.i
