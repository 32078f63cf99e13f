use Rattle.span.specs.Order.{at_most, above}
use Rattle.bounds.specs.Search.{start_of, split_start, split_up, split_down, in_order_sorted}
use mathlib.Core.Path.{◌≡◌}
use native.Mathlib.Omega.{arith}
use Rattle.bounds.proofs.starts_by.Goals as goal

pub loop-lo-init : goal.loop-lo-init
loop-lo-init c =
    split_start _ _ _

pub loop-lo-preserved-then-le : goal.loop-lo-preserved-then-le
unfolding start_of
loop-lo-preserved-then-le c =
    split_up (in_order_sorted c.args.tape.now c.args.nodes.at c.args.nodes.count c.requires.in_order) c.loop-lo.invariant _ (omega arith) (omega arith)
    (omega (arith, c.node_start.ensures, at_most c.node_start.result.0 c.args.offset.0 c.le.ensures c.if-le.true))

pub loop-lo-preserved : goal.loop-lo-preserved
unfolding start_of
loop-lo-preserved c =
    split_down (in_order_sorted c.args.tape.now c.args.nodes.at c.args.nodes.count c.requires.in_order) c.loop-lo.invariant _ (omega arith) (omega arith)
    (omega (arith, c.node_start.ensures, above c.node_start.result.0 c.args.offset.0 c.le.ensures c.if-le.false))

pub returns : goal.returns
returns c =
    let e : c.loop-lo.hi ≡ c.loop-lo.lo = omega arith in rw e at c.loop-lo.invariant
