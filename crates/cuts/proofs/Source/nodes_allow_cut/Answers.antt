use Rattle.span.specs.Order.{at_most, above, below, at_least}
use Rattle.cuts.specs.Gaps.{apart_in_order, upto_none, upto_gap, upto_across, upto_more, upto_rest}
use Rattle.cuts.proofs.Source.nodes_allow_cut.Goals as goal

pub loop-i-init : goal.loop-i-init
loop-i-init c =
    upto_none _ _ _ (apart_in_order c.args.self.now.nodes_apart)

pub returns-then-le : goal.returns-then-le
returns-then-le c =
    upto_gap c.loop-i.invariant c.loop-i-test.true _ c.node_start.ensures (at_most _ _ c.le.ensures c.if-le.true) _ c.are_zero.ensures

pub returns-then-lt : goal.returns-then-lt
returns-then-lt c =
    upto_across c.loop-i.invariant c.loop-i-test.true _ c.node_start.ensures _ c.node_end.ensures (above _ _ c.le.ensures c.if-le.false) (below _ _ c.lt.ensures c.if-lt.true)

pub loop-i-preserved : goal.loop-i-preserved
loop-i-preserved c =
    upto_more c.loop-i.invariant c.loop-i-test.true _ c.node_start.ensures _ c.node_end.ensures (at_least _ _ c.lt.ensures c.if-lt.false) _ _ c.past-depths.ensures.block_depth c.past-depths.ensures.warichu_depth

pub returns : goal.returns
returns c =
    upto_rest c.loop-i.invariant c.loop-i-test.false _ c.are_zero-2.ensures
