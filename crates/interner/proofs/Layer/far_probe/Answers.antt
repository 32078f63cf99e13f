use mathlib.Core.Path.{refl}
use native.Mathlib.Omega.{arith}
use Rattle.interner.specs.Recalled.{far_bounds, far_probed}
use Rattle.interner.proofs.Layer.far_probe.Goals as goal

pub overflow_sub-off : goal.overflow_sub-off
overflow_sub-off c =
    let start = c in
    let b = far_bounds start.args.self.now.work.now start.args.self.now.strs.now start.args.self.now.st.now start.args.self.now.good start.args.j start.requires in
    omega (arith, b)

pub overflow_add-w : goal.overflow_add-w
overflow_add-w c =
    let start = c in
    let b = far_bounds start.args.self.now.work.now start.args.self.now.strs.now start.args.self.now.st.now start.args.self.now.good start.args.j start.requires in
    omega (arith, b, c.row_of.ensures)

pub offset_bounds-self-row_of : goal.offset_bounds-self-row_of
offset_bounds-self-row_of c =
    let start = c in
    let b = far_bounds start.args.self.now.work.now start.args.self.now.strs.now start.args.self.now.st.now start.args.self.now.good start.args.j start.requires in
    omega (arith, b, c.row_of.ensures, start.args.self.now.good.words.room)

pub bounds-self-row_of : goal.bounds-self-row_of
bounds-self-row_of c =
    let start = c in
    let b = far_bounds start.args.self.now.work.now start.args.self.now.strs.now start.args.self.now.st.now start.args.self.now.good start.args.j start.requires in
    omega (arith, b, c.row_of.ensures, start.args.self.now.good.words.room)

pub overflow_add-result : goal.overflow_add-result
overflow_add-result c =
    let start = c in
    let b = far_bounds start.args.self.now.work.now start.args.self.now.strs.now start.args.self.now.st.now start.args.self.now.good start.args.j start.requires in
    omega (arith, b)

pub offset_bounds-self-off : goal.offset_bounds-self-off
offset_bounds-self-off c =
    let start = c in
    let b = far_bounds start.args.self.now.work.now start.args.self.now.strs.now start.args.self.now.st.now start.args.self.now.good start.args.j start.requires in
    omega (arith, b, start.args.self.now.good.words.room)

pub bounds-self-off : goal.bounds-self-off
bounds-self-off c =
    let start = c in
    let b = far_bounds start.args.self.now.work.now start.args.self.now.strs.now start.args.self.now.st.now start.args.self.now.good start.args.j start.requires in
    omega (arith, b, start.args.self.now.good.words.room)

pub returns : goal.returns
returns c =
    let start = c in
    far_probed start.args.self.now.work.now start.args.self.now.strs.now start.args.self.now.st.now start.args.self.now.good start.args.j start.requires _ _ c.row_of.ensures refl
