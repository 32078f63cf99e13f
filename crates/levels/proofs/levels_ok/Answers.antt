use Rattle.std.proofs.Common.{refl, sym, arith}
use Rattle.wire.specs.Loops.{passed_none}
use Rattle.places.specs.Walked.{layer_more, layers_passed}
use Rattle.store.specs.Stored.{stored_layers}
use Rattle.store.specs.Standing.{runs_there, runs_inside}
use Rattle.levels.specs.Whole.{no_segments, run_said}
use Rattle.levels.proofs.levels_ok.Goals as goal

pub returns-then-st-eq0 : goal.returns-then-st-eq0
returns-then-st-eq0 c =
    no_segments c.requires.of_tape c.if-st-eq0.true

pub returns-then-st-eq0-2 : goal.returns-then-st-eq0-2
returns-then-st-eq0-2 c =
    let n = stored_layers _ c.requires.of_tape.stored in layers_passed _ _ {k = 0} (omega (arith, n, c.if-st-eq0-2.true)) (passed_none _)

pub run_levels_ok-requires : goal.run_levels_ok-requires
run_levels_ok-requires c =
    record { count_in_bounds = (runs_inside c.requires.of_tape (omega (arith, c.if-st-eq0-2.false)) c.layer_runs.ensures).segments }

pub returns-then-not-run_levels_ok : goal.returns-then-not-run_levels_ok
returns-then-not-run_levels_ok c =
    c.levels_tabled.ensures

pub layers_ok-requires : goal.layers_ok-requires
layers_ok-requires c =
    let here = runs_there c.requires.of_tape (omega (arith, c.if-st-eq0-2.false)) c.layer_runs.ensures in
    let passed = c.run_levels_ok.ensures.sure c.if-not-run_levels_ok.false in
    record { before = (omega (arith, c.if-st-eq0-2.false), layer_more _ _ 0 here (run_said _ _ _ (sym passed)) refl (passed_none _)) }

pub returns-then-layers_ok : goal.returns-then-layers_ok
returns-then-layers_ok c =
    sym (c.layers_ok.ensures.sure c.if-layers_ok.true)

pub returns : goal.returns
returns c =
    c.levels_tabled-2.ensures
