use Rattle.std.proofs.Common.{arith, refl}
use Rattle.wire.specs.Loops.{passed_none}
use Rattle.places.specs.Walked.{layer_more, layer_failed, layers_passed}
use Rattle.store.specs.Stored.{stored_layers}
use Rattle.store.specs.Standing.{in_tape, runs_there, runs_inside}
use Rattle.ids.proofs.Pools.layers_ids_ok.Goals as goal

pub loop-k-init : goal.loop-k-init
loop-k-init c = passed_none _

pub layer_ids_ok-requires : goal.layer_ids_ok-requires
layer_ids_ok-requires c = runs_inside c.args.self.now.of_tape c.loop-k-test.true c.layer_runs.ensures

pub returns-then-not-layer_ids_ok : goal.returns-then-not-layer_ids_ok
returns-then-not-layer_ids_ok c =
    let tape = c.args.self.now.of_tape in
    layer_failed _ _ _ (runs_there tape c.loop-k-test.true c.layer_runs.ensures) c.layer_ids_ok.ensures (in_tape tape c.loop-k-test.true) c.if-not-layer_ids_ok.true

pub loop-k-preserved : goal.loop-k-preserved
loop-k-preserved c =
    layer_more _ _ _ (runs_there c.args.self.now.of_tape c.loop-k-test.true c.layer_runs.ensures) c.layer_ids_ok.ensures c.if-not-layer_ids_ok.false c.loop-k.invariant

pub returns : goal.returns
returns c =
    let n = stored_layers _ c.args.self.now.of_tape.stored in layers_passed _ _ (omega (arith, n)) c.loop-k.invariant
