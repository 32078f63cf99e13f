use Rattle.std.proofs.Common.{rules}
use Rattle.span.specs.Order.{at_most, above}
use Rattle.balanced_region.specs.Walks.{down_none, down_positive, down_found, down_more, down_done}
use mathlib.Core.Path.{refl, ◌∙◌}
use native.Mathlib.Omega.{arith}
use Rattle.balanced_region.proofs.last_cut.Goals as goal

pub loop-d-init : goal.loop-d-init
loop-d-init c =
    (down_none c.args.source.now.nodes_apart c.requires.front, c.requires.window, refl)

pub overflow_sub-lo : goal.overflow_sub-lo
overflow_sub-lo c =
    down_positive c.args.source.now.nodes_apart c.requires.front c.loop-d.invariant.0 _ c.gap_from-lo.ensures

pub gap_last-c-requires : goal.gap_last-c-requires
gap_last-c-requires c =
    record {
      inside = omega (arith, c.requires.inside, c.loop-d.invariant.0.below);
      window = c.loop-d.invariant.1;
    }

pub shape_of-words-then-le : goal.shape_of-words-then-le
shape_of-words-then-le c =
    c.gap_last-c.auto.words ∙ c.loop-d.invariant.2

pub returns-then-le : goal.returns-then-le
returns-then-le c =
    record {
      value = down_found c.args.source.now.nodes_apart c.requires.front c.loop-d.invariant.0 _ c.gap_from-lo.ensures _ (search rules) _ c.gap_last-c.ensures.value
          (at_most _ _ c.le.ensures c.if-le.true);
      window_2 = c.gap_last-c.ensures.window_2;
    }

pub before-depths-requires : goal.before-depths-requires
before-depths-requires c =
    omega (arith, c.args.source.now.nodes_inside, c.loop-d.invariant.0.upto, c.requires.front.within, c.if-i-d.false, c.loop-d.invariant.0.warichu_small)

pub loop-d-preserved : goal.loop-d-preserved
loop-d-preserved c = (
  down_more c.args.source.now.nodes_apart c.requires.front c.loop-d.invariant.0 _ c.gap_from-lo.ensures _ (search rules) _ c.gap_last-c.ensures.value
      (above _ _ c.le.ensures c.if-le.false) _ refl c.if-i-d.false _ c.node_start.ensures _ (search rules) _ _ c.before-depths.ensures.block_depth
      c.before-depths.ensures.warichu_depth,
  c.gap_last-c.ensures.window_2,
  c.gap_last-c.auto.words ∙ c.loop-d.invariant.2,
)

pub shape_of-words-then-i-d : goal.shape_of-words-then-i-d
shape_of-words-then-i-d c =
    c.gap_last-c.auto.words ∙ c.loop-d.invariant.2

pub returns-then-i-d : goal.returns-then-i-d
returns-then-i-d c =
    record {
      value = down_done c.args.source.now.nodes_apart c.requires.front c.loop-d.invariant.0 _ c.gap_from-lo.ensures _ (search rules) _ c.gap_last-c.ensures.value
          c.if-i-d.true (above _ _ c.le.ensures c.if-le.false);
      window_2 = c.gap_last-c.ensures.window_2;
    }
