use Rattle.span.specs.Order.{at_most, above}
use Rattle.balanced_region.specs.Walks.{end_walk_none, end_walk_inside, end_walk_found, end_walk_more, end_walk_done}
use mathlib.Core.Path.{refl, ◌∙◌}
use native.Mathlib.Omega.{arith}
use Rattle.balanced_region.proofs.region_end.Goals as goal

pub loop-i-init : goal.loop-i-init
loop-i-init c =
    (end_walk_none _ _ _ _ _ c.requires.nodes_in, c.requires.window, refl)

pub overflow_add-start : goal.overflow_add-start
overflow_add-start c =
    omega (arith, end_walk_inside c.loop-i.invariant.0 c.loop-i-test.true _ c.node_start-start.ensures, c.args.source.now.text_small)

pub gap_first-c-requires : goal.gap_first-c-requires
gap_first-c-requires c =
    record {
      inside = (end_walk_inside c.loop-i.invariant.0 c.loop-i-test.true _ c.node_start-start.ensures, c.requires.inside);
      window = c.loop-i.invariant.1;
    }

pub shape_of-words-then-le : goal.shape_of-words-then-le
shape_of-words-then-le c =
    c.gap_first-c.auto.words ∙ c.loop-i.invariant.2

pub returns-then-le : goal.returns-then-le
returns-then-le c =
    record {
      value = end_walk_found c.loop-i.invariant.0 c.loop-i-test.true _ c.node_start-start.ensures _ c.gap_first-c.ensures.value c.requires.inside (at_most _ _ c.le.ensures c.if-le.true);
      window_2 = c.gap_first-c.ensures.window_2;
    }

pub loop-i-preserved : goal.loop-i-preserved
loop-i-preserved c = (
  end_walk_more c.loop-i.invariant.0 c.loop-i-test.true _ c.node_start-start.ensures _ c.gap_first-c.ensures.value (above _ _ c.le.ensures c.if-le.false) _
      c.node_end-from.ensures _ _ c.past-depths.ensures.block_depth c.past-depths.ensures.warichu_depth,
  c.gap_first-c.ensures.window_2,
  c.gap_first-c.auto.words ∙ c.loop-i.invariant.2,
)

pub gap_first-requires : goal.gap_first-requires
gap_first-requires c =
    record {
      inside = (omega arith, c.requires.inside);
      window = c.loop-i.invariant.1;
    }

pub shape_of-words : goal.shape_of-words
shape_of-words c =
    c.gap_first.auto.words ∙ c.loop-i.invariant.2

pub returns : goal.returns
returns c =
    record {
      value = end_walk_done c.loop-i.invariant.0 c.loop-i-test.false c.requires.inside _ (rw c.end.ensures at c.gap_first.ensures.value);
      window_2 = c.gap_first.ensures.window_2;
    }
