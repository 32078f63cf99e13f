use Rattle.span.proofs.Sign.{test_neg, test_pos}
use mathlib.Core.Path.{sym}
use native.Mathlib.Omega.{arith}
use Rattle.span.proofs.amount_of.Goals as goal

pub overflow_add-result : goal.overflow_add-result
overflow_add-result c =
    (test_neg _ c.ranges.by c.if-by-lt0.true).sum_fits

pub overflow_sub-result : goal.overflow_sub-result
overflow_sub-result c =
    (test_neg _ c.ranges.by c.if-by-lt0.true).neg_fits

pub overflow_cast-result : goal.overflow_cast-result
overflow_cast-result c =
    let t = test_neg _ c.ranges.by c.if-by-lt0.true in rw t.value (tt, omega (arith, t.small))

pub overflow_cast-result-else-by-lt0 : goal.overflow_cast-result-else-by-lt0
overflow_cast-result-else-by-lt0 c =
    let t = test_pos _ c.ranges.by c.if-by-lt0.false in rw t.value (tt, omega (arith, t.small))

pub returns-then-by-lt0 : goal.returns-then-by-lt0
returns-then-by-lt0 c =
    let t = test_neg _ c.ranges.by c.if-by-lt0.true in rw t.value (sym t.is)

pub returns-else-by-lt0 : goal.returns-else-by-lt0
returns-else-by-lt0 c =
    let t = test_pos _ c.ranges.by c.if-by-lt0.false in rw t.value (sym t.is)
