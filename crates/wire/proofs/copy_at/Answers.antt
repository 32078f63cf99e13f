use lib.Seq.{take_all}
use Rattle.wire.specs.Overwrite.{copy_more, overwrite_nil}
use mathlib.Core.Path.{refl, ◌∙◌}
use native.Mathlib.Omega.{arith}
use lib.ListN.{length-set}
use Rattle.wire.proofs.copy_at.Goals as goal

pub loop-i-init : goal.loop-i-init
loop-i-init c =
    (omega arith, refl, overwrite_nil _ _)

pub bounds-s-i : goal.bounds-s-i
bounds-s-i c =
    omega arith

pub overflow_add-out : goal.overflow_add-out
overflow_add-out c =
    omega arith

pub bounds-out-at : goal.bounds-out-at
bounds-out-at c =
    omega arith

pub overflow_add-i : goal.overflow_add-i
overflow_add-i c =
    omega arith

pub loop-i-smaller : goal.loop-i-smaller
loop-i-smaller c =
    omega arith

pub loop-i-preserved : goal.loop-i-preserved
loop-i-preserved c =
    (omega arith, simp length-set (omega arith), rw c.loop-i.invariant.2 (copy_more _ _ _ _ c.requires c.loop-i-test.true))

pub shape_of-out : goal.shape_of-out
shape_of-out c =
    omega arith

pub returns : goal.returns
returns c =
    c.loop-i.invariant.2 ∙ rw (take_all c.loop-i.i c.args.s.now c.loop-i-test.false) refl
