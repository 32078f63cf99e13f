use Rattle.span.specs.Order.{at_most, above}
use Rattle.balanced_region.specs.Walks.{last_walk_none, last_walk_stop, last_walk_more, last_walk_done}
use mathlib.Core.Path.{refl, ◌∙◌}
use native.Mathlib.Omega.{arith}
use Rattle.balanced_region.proofs.last_cut_before.Goals as goal

pub loop-i-init : goal.loop-i-init
loop-i-init c =
    (last_walk_none _ _ _ _ _ c.args.source.now.nodes_apart, c.requires.window, refl)

pub gap_last-requires : goal.gap_last-requires
gap_last-requires c =
    record {
      inside = omega (arith, c.requires.inside);
      window = c.loop-i.invariant.1;
    }

pub shape_of-words-then-le : goal.shape_of-words-then-le
shape_of-words-then-le c =
    c.gap_last.auto.words ∙ c.loop-i.invariant.2

pub returns-then-le : goal.returns-then-le
returns-then-le c =
    record {
      value = last_walk_stop c.loop-i.invariant.0 c.loop-i-test.true _ c.node_start-start.ensures (at_most _ _ c.le.ensures c.if-le.true) _ c.gap_last.ensures.value;
      window_2 = c.gap_last.ensures.window_2;
    }

pub gap_last-last-requires : goal.gap_last-last-requires
gap_last-last-requires c =
    record {
      inside = omega (arith, c.requires.inside, above c.args.bound.0 c.node_start-start.result.0 c.le.ensures c.if-le.false);
      window = c.loop-i.invariant.1;
    }

pub loop-i-preserved : goal.loop-i-preserved
loop-i-preserved c = (
  last_walk_more c.loop-i.invariant.0 c.loop-i-test.true _ c.node_start-start.ensures (above _ _ c.le.ensures c.if-le.false) _ c.gap_last-last.ensures.value _
      c.node_end-from.ensures _ _ c.past-depths.ensures.block_depth c.past-depths.ensures.warichu_depth,
  c.gap_last-last.ensures.window_2,
  c.gap_last-last.auto.words ∙ c.loop-i.invariant.2,
)

pub gap_last-requires-2 : goal.gap_last-requires-2
gap_last-requires-2 c =
    record {
      inside = omega (arith, c.requires.inside);
      window = c.loop-i.invariant.1;
    }

pub shape_of-words : goal.shape_of-words
shape_of-words c =
    c.gap_last-2.auto.words ∙ c.loop-i.invariant.2

pub returns : goal.returns
returns c =
    record {
      value = last_walk_done c.loop-i.invariant.0 c.loop-i-test.false _ c.gap_last-2.ensures.value;
      window_2 = c.gap_last-2.ensures.window_2;
    }
