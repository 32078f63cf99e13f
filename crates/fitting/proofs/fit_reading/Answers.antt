use Rattle.std.proofs.Common.{refl}
use Rattle.model.specs.Region.{edit_of}
use Rattle.refusal.specs.Refusal.{handed_on, number_bounds}
use Rattle.fitting.specs.Stages.{window_region, window_ends, window_refused, window_fits}
use Rattle.fitting.proofs.fit_reading.Goals as goal

pub check_fitting-requires : goal.check_fitting-requires
unfolding edit_of
check_fitting-requires c = record {
  region = window_region c.requires c.args.reading.now c.region_window-window.result c.region_window-window.ensures;
  cuts = window_ends c.requires c.args.reading.now c.region_window-window.result c.region_window-window.ensures;
}

pub returns-in_err-check_fitting : goal.returns-in_err-check_fitting
unfolding edit_of
returns-in_err-check_fitting c =
    rw (handed_on _ c.from_residual.ensures.1)
    (window_refused c.requires c.args.reading.now c.region_window-window.result c.region_window-window.ensures c.in_err-check_fitting.ensures (number_bounds _).0)

pub returns : goal.returns
unfolding edit_of
returns c =
    window_fits c.requires c.args.reading.now c.region_window-window.result c.region_window-window.ensures c.in_ok-check_fitting.ensures refl
