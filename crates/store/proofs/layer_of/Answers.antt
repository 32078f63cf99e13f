use Rattle.std.proofs.Common.{sym, ◌∙◌, arith}
use Rattle.store.specs.Pools.{layer_here, layer_below, layer_none}
use Rattle.store.proofs.layer_of.Goals as goal

pub returns-then-starts-k : goal.returns-then-starts-k
returns-then-starts-k c =
    sym (c.loop-k.invariant ∙ layer_here _ _ _ (omega arith) c.if-starts-k.true)

pub loop-k-preserved : goal.loop-k-preserved
loop-k-preserved c =
    c.loop-k.invariant ∙ layer_below _ _ _ (omega arith) c.if-starts-k.false

pub returns : goal.returns
returns c =
    sym (c.loop-k.invariant ∙ layer_none _ _ _ (omega arith))
