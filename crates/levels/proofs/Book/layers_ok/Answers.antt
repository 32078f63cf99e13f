use Rattle.std.proofs.Common.{arith, refl, sym}
use Rattle.places.specs.Walked.{layer_more, layer_failed, layers_passed}
use Rattle.store.specs.Stored.{stored_layers}
use Rattle.store.specs.Standing.{in_tape, runs_there, runs_inside}
use Rattle.levels.specs.Told.{told, told_no}
use Rattle.levels.specs.Whole.{run_said}
use Rattle.levels.proofs.Book.layers_ok.Goals as goal

pub loop-k-init : goal.loop-k-init
loop-k-init c =
    c.requires.before.1

pub run_levels_ok-requires : goal.run_levels_ok-requires
run_levels_ok-requires c =
    record { count_in_bounds = (runs_inside c.args.self.now.of_tape c.loop-k-test.true c.layer_runs.ensures).segments }

pub returns-then-not-run_levels_ok : goal.returns-then-not-run_levels_ok
returns-then-not-run_levels_ok c =
    let tape = c.args.self.now.of_tape in
    told_no c.run_levels_ok.ensures c.if-not-run_levels_ok.true
    (layer_failed _ _ _ (runs_there tape c.loop-k-test.true c.layer_runs.ensures) (run_said _ _ _ refl) (in_tape tape c.loop-k-test.true))

pub loop-k-preserved : goal.loop-k-preserved
loop-k-preserved c =
    layer_more _ _ _ (runs_there c.args.self.now.of_tape c.loop-k-test.true c.layer_runs.ensures) (run_said _ _ _ (sym (c.run_levels_ok.ensures.sure c.if-not-run_levels_ok.false))) refl c.loop-k.invariant

pub returns : goal.returns
returns c =
    let n = stored_layers _ c.args.self.now.of_tape.stored in told (layers_passed _ _ (omega (arith, n)) c.loop-k.invariant)
