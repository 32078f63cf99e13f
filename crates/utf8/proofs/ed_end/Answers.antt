use Rattle.utf8.specs.Skips.{skipped_none, skipped_more, skip_ed}
use mathlib.Core.Path.{sym, ◌∙◌}
use native.Mathlib.Omega.{arith}
use Rattle.utf8.proofs.ed_end.Goals as goal

pub loop-i-init : goal.loop-i-init
loop-i-init c =
    skipped_none _ _ c.requires

pub overflow_sub-s : goal.overflow_sub-s
overflow_sub-s c =
    c.loop-i.invariant.fits

pub bounds-s-i : goal.bounds-s-i
bounds-s-i c =
    omega (arith, c.loop-i.invariant.fits, c.loop-i-test.true)

pub overflow_add-i : goal.overflow_add-i
overflow_add-i c =
    omega (arith, c.loop-i.invariant.fits, c.loop-i-test.true)

pub bounds-s-i-in-loop-i : goal.bounds-s-i-in-loop-i
bounds-s-i-in-loop-i c =
    omega (arith, c.loop-i.invariant.fits, c.loop-i-test.true)

pub overflow_add-i-in-loop-i : goal.overflow_add-i-in-loop-i
overflow_add-i-in-loop-i c =
    omega (arith, c.loop-i.invariant.fits, c.loop-i-test.true)

pub bounds-s-i-in-loop-i-2 : goal.bounds-s-i-in-loop-i-2
bounds-s-i-in-loop-i-2 c =
    omega (arith, c.loop-i.invariant.fits, c.loop-i-test.true)

pub is_ed-requires : goal.is_ed-requires
is_ed-requires c =
    omega (arith, c.loop-i.invariant.fits, c.loop-i-test.true)

pub returns-then-not-is_ed : goal.returns-then-not-is_ed
returns-then-not-is_ed c =
    c.loop-i.invariant

pub overflow_add-i-in-loop-i-2 : goal.overflow_add-i-in-loop-i-2
overflow_add-i-in-loop-i-2 c =
    omega (arith, c.loop-i.invariant.fits, c.loop-i-test.true)

pub loop-i-smaller : goal.loop-i-smaller
loop-i-smaller c =
    omega (arith, c.loop-i.invariant.fits, c.loop-i-test.true)

pub loop-i-preserved : goal.loop-i-preserved
loop-i-preserved c =
    skipped_more c.loop-i.invariant (skip_ed _ _ (omega (arith, c.loop-i.invariant.fits, c.loop-i-test.true)) (sym c.is_ed.ensures ∙ c.if-not-is_ed.false))

pub returns : goal.returns
returns c =
    c.loop-i.invariant
