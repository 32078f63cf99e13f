use Rattle.reading.specs.Balance.{balanced_none, balanced_fails, balanced_more, balanced_done}
use native.Mathlib.Omega.{arith}
use Rattle.reading.proofs.balanced_nodes.Goals as goal

pub loop-i-init : goal.loop-i-init
loop-i-init c =
    balanced_none _ _ _

pub returns-then-closes_unopened : goal.returns-then-closes_unopened
returns-then-closes_unopened c =
    balanced_fails c.loop-i.invariant c.loop-i-test.true c.closes_unopened.ensures c.if-closes_unopened.true

pub loop-i-preserved : goal.loop-i-preserved
loop-i-preserved c =
    balanced_more c.loop-i.invariant c.loop-i-test.true c.closes_unopened.ensures c.if-closes_unopened.false c.past-depths.ensures.block_depth c.past-depths.ensures.warichu_depth

pub returns : goal.returns
returns c =
    balanced_done c.loop-i.invariant (omega arith) c.are_zero.ensures
