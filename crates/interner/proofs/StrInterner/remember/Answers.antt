use mathlib.Core.List.{List}
use Prim.Native.Nat.{ℕ, ◌+◌}
use lib.ListN.{set}
use mathlib.Core.Path.{refl, ap}
use native.Mathlib.Omega.{arith}
use Rattle.table.specs.Layout.{probe_of}
use Rattle.interner.specs.Row.{row_apart, far_in}
use Rattle.interner.specs.Recalled.{remembered_none, remembered_one, probe_small}
use Rattle.interner.proofs.StrInterner.remember.Goals as goal

pub returns-then-far-ge-ROW : goal.returns-then-far-ge-ROW
returns-then-far-ge-ROW c =
    let start = c in
    remembered_none start.args.work.now start.args.strs.now start.args.self.now start.requires.good

pub overflow_mul-w : goal.overflow_mul-w
overflow_mul-w c =
    let start = c in
    let small = probe_small start.args.work.now start.args.strs.now start.args.self.now start.requires.good (probe_of start.args.p) start.requires.slots_nonzero.1 start.requires.slots_nonzero.0 start.requires.p_value in
    omega (arith, small)

pub overflow_add-w : goal.overflow_add-w
overflow_add-w c =
    let start = c in
    let small = probe_small start.args.work.now start.args.strs.now start.args.self.now start.requires.good (probe_of start.args.p) start.requires.slots_nonzero.1 start.requires.slots_nonzero.0 start.requires.p_value in
    omega (arith, small)

pub overflow_add-row : goal.overflow_add-row
overflow_add-row c =
    let start = c in
    let apart = (row_apart start.requires.good.size).0 in
    omega (arith, apart, c.row_of-row.ensures, c.if-far-ge-ROW.false, start.requires.slots_nonzero.2)

pub overflow_add-row-2 : goal.overflow_add-row-2
overflow_add-row-2 c =
    let start = c in
    let apart = (row_apart start.requires.good.size).0 in
    omega (arith, apart, c.row_of-row.ensures, c.if-far-ge-ROW.false, start.requires.slots_nonzero.2)

pub overflow_cast-w : goal.overflow_cast-w
overflow_cast-w c =
    let start = c in
    let small = probe_small start.args.work.now start.args.strs.now start.args.self.now start.requires.good (probe_of start.args.p) start.requires.slots_nonzero.1 start.requires.slots_nonzero.0 start.requires.p_value in
    omega (arith, small)

pub put_before-requires : goal.put_before-requires
put_before-requires c =
    let start = c in
    let apart = (row_apart start.requires.good.size).0 in
    (omega (arith, start.requires.slots_nonzero.2), omega (arith, apart, c.row_of-row.ensures, c.if-far-ge-ROW.false, start.requires.good.words.room))

pub returns : goal.returns
returns c =
    let start = c in
    let row_of = c.row_of-row in
    let put-before = c.put_before in
    let left = c.if-far-ge-ROW.false in
    remembered_one start.args.work.now start.args.strs.now start.args.self.now start.requires.good
    (probe_of start.args.p) start.requires.slots_nonzero.1 start.requires.slots_nonzero.0 start.requires.p_value start.args.j _ _ start.requires.slots_nonzero.2 (omega (arith, left)) row_of.ensures refl _
    refl (ap (λ (l : List ℕ). set l 8191 (far_in start.args.work.now + 1)) put-before.ensures)
