use Rattle.std.proofs.Common.{◌≡◌, arith}
use Rattle.representatives.specs.Bisection.{split_start, split_up, split_down}
use Rattle.representatives.proofs.rank_of.Goals as goal

pub loop-lo-init : goal.loop-lo-init
loop-lo-init c =
    split_start _ _ _

pub overflow_mul-mid : goal.overflow_mul-mid
overflow_mul-mid c =
    omega (arith, c.loop-lo.invariant.few)

pub offset_bounds-words-mid : goal.offset_bounds-words-mid
offset_bounds-words-mid c =
    omega (arith, c.loop-lo.invariant.few)

pub bounds-words-mid : goal.bounds-words-mid
bounds-words-mid c =
    omega (arith, c.loop-lo.invariant.few)

pub loop-lo-preserved-then-words-mid : goal.loop-lo-preserved-then-words-mid
loop-lo-preserved-then-words-mid c =
    split_up c.loop-lo.invariant _ (omega arith, omega arith) c.if-words-mid.true

pub loop-lo-preserved : goal.loop-lo-preserved
loop-lo-preserved c =
    split_down c.loop-lo.invariant _ (omega arith, omega arith) (omega arith)

pub returns : goal.returns
returns c =
    let e : c.loop-lo.hi ≡ c.loop-lo.lo = omega (arith, c.loop-lo.invariant.few) in rw e at c.loop-lo.invariant
