use native.Mathlib.Omega.{arith}
use Rattle.span.specs.Order.{at_most, above}
use Rattle.balanced_region.specs.Unmatched.{passing_none, passing_stop, passing_more, passing_done, past_count}
use Rattle.balanced_region.proofs.depths_before.Goals as goal

pub loop-d-init : goal.loop-d-init
loop-d-init c =
    passing_none _ _ _

pub returns-then-le : goal.returns-then-le
returns-then-le c =
    passing_stop c.loop-d.invariant c.loop-d-test.true _ c.node_start.ensures (at_most _ _ c.le.ensures c.if-le.true)

pub loop-d-smaller : goal.loop-d-smaller
loop-d-smaller c =
    omega (arith, past_count _ _ _ c.past-d.ensures)

pub loop-d-preserved : goal.loop-d-preserved
loop-d-preserved c =
    passing_more c.loop-d.invariant c.loop-d-test.true _ c.node_start.ensures (above _ _ c.le.ensures c.if-le.false) _ c.past-d.ensures

pub returns : goal.returns
returns c =
    passing_done c.loop-d.invariant c.loop-d-test.false
