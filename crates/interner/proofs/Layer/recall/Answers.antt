use Rattle.std.proofs.Common.{◌<◌, arith}
use Rattle.table.specs.Layout.{probe_of}
use Rattle.interner.specs.Row.{far_in}
use Rattle.interner.specs.Recalled.{far_recalled, far_named}
use Rattle.interner.proofs.Layer.recall.Goals as goal

pub returns-then-same : goal.returns-then-same
returns-then-same c =
    let ask : (0 < c.args.self.now.st.now.slots) × (c.args.j < far_in c.args.self.now.work.now) = (c.requires, omega arith) in
    let p = probe_of c.far_probe.result in (
      (far_named c.args.self.now.work.now c.args.self.now.strs.now c.args.self.now.st.now c.args.self.now.good c.args.j ask p c.far_probe.ensures).0,
      far_recalled c.args.self.now.work.now c.args.self.now.strs.now c.args.self.now.st.now c.args.self.now.good c.args.j ask c.args.s.now _ _ p c.far_string.ensures c.same.ensures c.if-same.true c.far_probe.ensures,
    )
