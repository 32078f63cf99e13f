use Rattle.std.proofs.Common.{arith}
use Rattle.table.specs.Layout.{probe_of}
use Rattle.stats.specs.Ways.{adds_table_hit}
use Rattle.interner.specs.Lookups.{probe_in}
use Rattle.intern.proofs.Answers.{hit_told}
use Rattle.intern.proofs.far_call.Goals as goal

pub table_hit-stats-requires : goal.table_hit-stats-requires
table_hit-stats-requires c =
    let in_table = probe_in c.args.work.now c.args.strs.now c.args.st.now c.requires.good c.args.s.now c.requires.slots_nonzero.0 c.requires.slots_nonzero.1 (probe_of c.in-Some.p) c.in-Some.ensures.1 in
    (c.requires.good.counts, c.requires.calls_bound.0, c.requires.calls_bound.1, in_table.2)

pub returns-in-Some : goal.returns-in-Some
returns-in-Some c =
    let p = probe_of c.in-Some.p in
    let found = c.in-Some.ensures in
    let in_table = probe_in c.args.work.now c.args.strs.now c.args.st.now c.requires.good c.args.s.now c.requires.slots_nonzero.0 c.requires.slots_nonzero.1 p found.1 in
    let adds = adds_table_hit _ _ c.requires.good.counts _ _ c.requires.calls_bound.1 in_table.2 c.table_hit-stats.ensures in
    hit_told c.args.work.now c.args.strs.now c.args.st.now c.requires.good c.args.s.now c.args.resized p found.1 _ adds (λ e. omega (arith, e, found.0)) in_table.1 _ c.known.ensures.state _ c.known.ensures.id
