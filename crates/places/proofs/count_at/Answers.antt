use Rattle.places.specs.Runs.{counted_more, counted_other, counted_past}
use native.Mathlib.Omega.{arith}
use Rattle.places.proofs.count_at.Goals as goal

pub overflow_mul-place : goal.overflow_mul-place
overflow_mul-place c =
    omega (arith, c.eights_at-n.ensures.1)

pub overflow_add-place : goal.overflow_add-place
overflow_add-place c =
    omega (arith, c.eights_at-n.ensures.1)

pub loop-place-init : goal.loop-place-init
loop-place-init c =
    c.eights_at-n.ensures.0

pub returns-then-tape-place : goal.returns-then-tape-place
returns-then-tape-place c =
    counted_other c.loop-place.invariant c.loop-place-test.true c.if-tape-place.true

pub overflow_add-n : goal.overflow_add-n
overflow_add-n c =
    omega (arith, c.loop-place.invariant.low)

pub returns-then-tape-place-2 : goal.returns-then-tape-place-2
returns-then-tape-place-2 c =
    counted_past (counted_more c.loop-place.invariant c.requires c.loop-place-test.true c.if-tape-place.false) (omega arith)

pub loop-place-preserved : goal.loop-place-preserved
loop-place-preserved c =
    counted_more c.loop-place.invariant c.requires c.loop-place-test.true c.if-tape-place.false

pub returns : goal.returns
returns c =
    counted_past c.loop-place.invariant c.loop-place-test.false
