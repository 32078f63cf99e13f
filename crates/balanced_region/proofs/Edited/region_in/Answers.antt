use Rattle.balanced_region.specs.Ends.{balanced_in}
use Rattle.balanced_region.specs.Survives.{search_bounds}
use mathlib.Core.Path.{refl}
use native.Mathlib.Omega.{arith}
use Rattle.balanced_region.proofs.Edited.region_in.Goals as goal

pub region_start-from-requires : goal.region_start-from-requires
region_start-from-requires c =
    record {
      inside = c.args.self.now.start_inside;
      window = c.no_window.ensures _;
    }

pub region_end-to-requires : goal.region_end-to-requires
region_end-to-requires c =
    let b = (search_bounds c.args.self.now.source.text.now c.args.self.now.start.0 c.args.self.now.end.0 c.args.self.now.replacement.now c.args.self.now.end_inside).1 in
    record {
      inside = omega (arith, b, c.search_from-behind.ensures);
      nodes_in = c.args.self.now.nodes_in;
      window = c.no_window-2.ensures _;
    }

pub returns : goal.returns
unfolding balanced_in
returns c =
    rw (c.region_start-from.ensures.value, c.region_end-to.ensures.value, c.search_from-behind.ensures) refl
