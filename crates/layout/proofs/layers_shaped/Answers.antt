use Rattle.std.proofs.Common.{arith}
use Rattle.wire.specs.Loops.{passed_none}
use Rattle.places.specs.Again.{at_first}
use Rattle.places.specs.Walked.{nth_next, runs_fit, layer_more, layer_failed, layers_passed}
use Rattle.layout.proofs.layers_shaped.Goals as goal

pub loop-k-init : goal.loop-k-init
loop-k-init c =
    (at_first _, passed_none _)

pub runs-l-requires : goal.runs-l-requires
runs-l-requires c =
    (c.loop-k-test.true, c.loop-k.invariant.0)

pub layer_shaped-requires : goal.layer_shaped-requires
layer_shaped-requires c =
    runs_fit c.args.layers.now.counted.1 (omega (arith, c.args.layers.now.counted.0, c.loop-k-test.true)) c.runs-l.ensures

pub returns-then-not-layer_shaped : goal.returns-then-not-layer_shaped
returns-then-not-layer_shaped c =
    layer_failed _ _ _ c.runs-l.ensures c.layer_shaped.ensures (omega (arith, c.args.layers.now.counted.0, c.loop-k-test.true)) c.if-not-layer_shaped.true

pub loop-k-preserved : goal.loop-k-preserved
loop-k-preserved c = (
  nth_next c.loop-k.invariant.0 (omega (arith, c.args.layers.now.counted.0, c.loop-k-test.true)) c.runs-l.ensures,
  layer_more _ _ _ c.runs-l.ensures c.layer_shaped.ensures c.if-not-layer_shaped.false c.loop-k.invariant.1,
)

pub returns : goal.returns
returns c =
    layers_passed _ _ (omega (arith, c.args.layers.now.counted.0)) c.loop-k.invariant.1
