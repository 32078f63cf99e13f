use lib.ListN.{length}
use native.Mathlib.Omega.{arith}
use mathlib.Core.Path.{refl}
use Rattle.model.specs.Region.{edit_of}
use Rattle.tape.specs.Held.{held_runs, held_in_order}
use Rattle.fitting.specs.Window.{window_cuts, given_inside, start_small, end_small, normal_order}
use Rattle.fitting.proofs.region_window.Goals as goal

pub normalized_offset-requires : goal.normalized_offset-requires
normalized_offset-requires c = record {
  count_in_bounds = (held_runs c.args.book.now.held).0;
  in_order = held_in_order c.args.book.now.held;
  fits = start_small c.requires refl;
}

pub normalized_offset-requires-2 : goal.normalized_offset-requires-2
normalized_offset-requires-2 c = record {
  count_in_bounds = (held_runs c.args.book.now.held).0;
  in_order = held_in_order c.args.book.now.held;
  fits = end_small c.requires refl;
}

pub window-requires : goal.window-requires
unfolding edit_of
window-requires c =
    let i = given_inside c.requires in
    (i.edit, normal_order c.requires c.normalized_offset.ensures c.normalized_offset-2.ensures, omega (arith, i.replacement))

pub returns : goal.returns
returns c =
    let e = c.args.edit.now in
    window_cuts _ _ (length e.replacement.now) e.start.0 e.end.0 c.args.normalized.0 c.window.ensures c.normalized_offset.ensures c.normalized_offset-2.ensures
