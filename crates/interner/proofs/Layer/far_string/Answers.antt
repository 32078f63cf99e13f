use native.Mathlib.Omega.{arith}
use Rattle.interner.specs.Recalled.{far_named, far_bytes}
use Rattle.table.specs.Layout.{probe_of}
use Rattle.interner.proofs.Layer.far_string.Goals as goal

pub overflow_sub-p : goal.overflow_sub-p
overflow_sub-p c =
    let start = c in
    let far-probe = c.far_probe-p in
    let named = far_named start.args.self.now.work.now start.args.self.now.strs.now start.args.self.now.st.now start.args.self.now.good start.args.j start.requires (probe_of far-probe.result) far-probe.ensures in
    omega (arith, named)

pub resolve-requires : goal.resolve-requires
resolve-requires c =
    let start = c in
    let far-probe = c.far_probe-p in
    let named = far_named start.args.self.now.work.now start.args.self.now.strs.now start.args.self.now.st.now start.args.self.now.good start.args.j start.requires (probe_of far-probe.result) far-probe.ensures in
    named.1

pub returns : goal.returns
returns c =
    let start = c in
    let far-probe = c.far_probe-p in
    far_bytes start.args.self.now.work.now start.args.self.now.strs.now start.args.self.now.st.now start.args.self.now.good start.args.j start.requires (probe_of far-probe.result) far-probe.ensures _ c.resolve.ensures
