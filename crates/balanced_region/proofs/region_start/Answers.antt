use Rattle.std.proofs.Common.{rules, min}
use Rattle.balanced_region.specs.Walks.{start_front, start_falls, start_walk_found, start_walk_first, start_walk_rest}
use Rattle.balanced_region.specs.StartSearch.{start_end}
use mathlib.Core.Path.{◌≡◌, refl, sym, ◌∙◌}
use native.Mathlib.Omega.{arith}
use Rattle.balanced_region.proofs.region_start.Goals as goal

pub returns-then-ends_behind_newline : goal.returns-then-ends_behind_newline
returns-then-ends_behind_newline c =
    record {
      value = start_end _ _ _ _ (sym c.ends_behind_newline.ensures ∙ c.if-ends_behind_newline.true);
      window_2 = c.requires.window;
    }

pub last_cut-c-requires : goal.last_cut-c-requires
last_cut-c-requires c =
    record {
      inside = c.requires.inside;
      front = start_front _ _ _ _ c.depths_before-d.ensures;
      window = c.requires.window;
    }

pub returns-then-c-gt0 : goal.returns-then-c-gt0
returns-then-c-gt0 c =
    record {
      value = start_walk_found _ _ _ _ c.depths_before-d.ensures _ _ c.requires.inside _ c.ends_behind_newline.ensures c.if-ends_behind_newline.false
          c.args.source.now.nodes_apart _ c.last_cut-c.ensures.value c.if-c-gt0.true;
      window_2 = c.last_cut-c.ensures.window_2;
    }

pub returns-then-d-eq0 : goal.returns-then-d-eq0
returns-then-d-eq0 c =
    record {
      value = start_walk_first _ _ _ _ c.depths_before-d.ensures _ _ c.requires.inside _ c.ends_behind_newline.ensures c.if-ends_behind_newline.false
          c.args.source.now.nodes_apart _ c.last_cut-c.ensures.value c.if-c-gt0.false c.if-d-eq0.true;
      window_2 = c.last_cut-c.ensures.window_2;
    }

pub overflow_mul-d : goal.overflow_mul-d
overflow_mul-d c =
    omega (arith, start_falls _ _ _ _ c.depths_before-d.ensures, c.if-d-eq0.false, c.args.source.now.nodes_inside)

pub overflow_add-source : goal.overflow_add-source
overflow_add-source c =
    omega (arith, start_falls _ _ _ _ c.depths_before-d.ensures, c.if-d-eq0.false, c.args.source.now.nodes_inside)

pub node_start-start-requires : goal.node_start-start-requires
node_start-start-requires c =
    omega (arith, start_falls _ _ _ _ c.depths_before-d.ensures, c.if-d-eq0.false, c.args.source.now.nodes_inside)

pub last_cut_before-requires : goal.last_cut_before-requires
last_cut_before-requires c =
    let least : c.min.result.0 ≡ min c.args.o.0 c.node_start-start.result.0 = search rules in
    record {
      inside = omega (arith, c.requires.inside, least);
      window = c.last_cut-c.ensures.window_2;
    }

pub returns : goal.returns
returns c =
    record {
      value = start_walk_rest _ _ _ _ c.depths_before-d.ensures _ _ c.requires.inside _ c.ends_behind_newline.ensures c.if-ends_behind_newline.false
          c.args.source.now.nodes_apart _ c.last_cut-c.ensures.value c.if-c-gt0.false c.if-d-eq0.false _ refl _ c.node_start-start.ensures _ (search rules) _
          c.last_cut_before.ensures.value;
      window_2 = c.last_cut_before.ensures.window_2;
    }
