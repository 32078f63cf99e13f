use mathlib.Core.Path.{subst}
use Rattle.table.specs.Moved.{Moved, moved_first, moved_last, moved_skip, moved_put, moved_work, entry, in_old_lem}
use mathlib.Core.Path.{refl, sym, ◌∙◌}
use mathlib.Core.List.{List}
use Prim.Native.Nat.{ℕ, ◌+◌}
use native.Mathlib.Omega.{arith}
use Rattle.table.proofs.move_slots.Goals as goal
use Rattle.table.proofs.move_slots.Goals.{then-e-ne0, else-e-ne0}

pub loop-i-init : goal.loop-i-init
loop-i-init c =
    moved_first _ _ _ _

pub place-requires : goal.place-requires
place-requires c =
    let old = c.requires.entries c.loop-i.i (in_old_lem c.args.strs.now c.args.work.now c.args.count c.args.n c.requires.le_n.0 c.requires.le_n.1 c.requires.work.room c.loop-i.work c.loop-i.i c.loop-i.invariant c.loop-i-test.true) in
    let same = entry c.args.strs.now c.args.work.now c.args.count c.args.n c.requires.le_n.0 c.requires.le_n.1 c.requires.work.room c.loop-i.work c.loop-i.i c.loop-i.invariant c.loop-i-test.true in
    let ne = c.if-e-ne0.true in
    record {
      work = moved_work c.args.strs.now c.args.work.now c.args.count c.args.n c.requires.le_n.0 c.requires.le_n.1 c.requires.work.room c.loop-i.work c.loop-i.i c.loop-i.invariant c.requires.work;
      le_n = omega arith;
      e_nonzero = omega (arith, old, same);
    }

pub loop-i-preserved : goal.loop-i-preserved
loop-i-preserved c =
    elim c.if-e-ne0.branch [
      | then-e-ne0 w ↦ subst (λ (l : List ℕ). Moved c.args.strs.now c.args.work.now c.args.count c.args.n l (c.loop-i.i + 1)) (sym (w.work-is ∙ w.place.ensures.work_after)) (moved_put c.args.strs.now c.args.work.now c.args.count c.args.n c.requires.le_n.0 c.requires.le_n.1 c.requires.work.room c.loop-i.work c.loop-i.i c.loop-i.invariant c.loop-i-test.true _ _ refl w.if-e-ne0.true refl w.place.ensures.e_bound)
      | else-e-ne0 w ↦ subst (λ (l : List ℕ). Moved c.args.strs.now c.args.work.now c.args.count c.args.n l (c.loop-i.i + 1)) (sym w.work-is) (moved_skip c.args.strs.now c.args.work.now c.args.count c.args.n c.requires.le_n.0 c.requires.le_n.1 c.requires.work.room c.loop-i.work c.loop-i.i c.loop-i.invariant c.loop-i-test.true w.if-e-ne0.false)
    ]

pub returns : goal.returns
returns c =
    record {
      work_after = moved_last c.args.strs.now c.args.work.now c.args.count c.args.n c.requires.le_n.0 c.requires.le_n.1 c.requires.work.room c.loop-i.work c.loop-i.i c.loop-i.invariant c.loop-i-test.false;
      work_unchanged = c.loop-i.invariant.high;
    }
