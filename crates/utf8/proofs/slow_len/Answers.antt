use Rattle.utf8.specs.Skips.{skipped_none, skipped_more, step_skipped}
use native.Mathlib.Omega.{arith}
use Rattle.utf8.proofs.slow_len.Goals as goal

pub loop-i-init : goal.loop-i-init
loop-i-init c =
    skipped_none _ _ (omega arith)

pub overflow_sub-i : goal.overflow_sub-i
overflow_sub-i c =
    c.loop-i.invariant.order

pub overflow_sub-result : goal.overflow_sub-result
overflow_sub-result c =
    c.loop-i.invariant.order

pub returns-then-i-at-ge64 : goal.returns-then-i-at-ge64
returns-then-i-at-ge64 c =
    step_skipped c.loop-i.invariant (omega (arith, c.if-i-at-ge64.true))

pub loop-i-preserved : goal.loop-i-preserved
loop-i-preserved c =
    skipped_more c.loop-i.invariant c.in_ok-i.ensures.1

pub returns : goal.returns
returns c =
    step_skipped c.loop-i.invariant (omega (arith, c.loop-i-test.false, c.requires))
