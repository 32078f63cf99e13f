use Rattle.std.proofs.Common.{◌≡◌, ◌<◌, subst, ◌∙◌, lit≤}
use Rattle.model.specs.Intern.{Interned}
use Rattle.table.specs.Layout.{probe_of}
use Rattle.stats.specs.Ways.{adds_table_hit}
use Rattle.interner.specs.Lookups.{probe_in, near_first}
use Rattle.intern.specs.Told.{Told}
use Rattle.intern.proofs.Answers.{call_alloc, hit_told}
use Rattle.intern.proofs.table_call.Goals as goal

pub table_hit-stats-requires : goal.table_hit-stats-requires
table_hit-stats-requires c =
    let p = probe_of c.lookup-p.result in
    let stops : p.slot ≡ 0 → p.steps < 16 = λ e. absurd (c.if-p-ne0.true e) in
    let first = near_first c.args.work.now c.args.strs.now c.args.st.now c.requires.good c.args.s.now c.requires.slots_nonzero.0 16 (lit≤ tt) p c.lookup-p.ensures stops in
    let in_table = probe_in c.args.work.now c.args.strs.now c.args.st.now c.requires.good c.args.s.now c.requires.slots_nonzero.0 c.requires.slots_nonzero.1 p first in
    (c.requires.good.counts, c.requires.calls_bound.0, c.requires.calls_bound.1, in_table.2)

pub returns-then-p-ne0 : goal.returns-then-p-ne0
returns-then-p-ne0 c =
    let p = probe_of c.lookup-p.result in
    let ne = c.if-p-ne0.true in
    let stops : p.slot ≡ 0 → p.steps < 16 = λ e. absurd (ne e) in
    let first = near_first c.args.work.now c.args.strs.now c.args.st.now c.requires.good c.args.s.now c.requires.slots_nonzero.0 16 (lit≤ tt) p c.lookup-p.ensures stops in
    let in_table = probe_in c.args.work.now c.args.strs.now c.args.st.now c.requires.good c.args.s.now c.requires.slots_nonzero.0 c.requires.slots_nonzero.1 p first in
    let adds = adds_table_hit _ _ c.requires.good.counts _ _ c.requires.calls_bound.1 in_table.2 c.table_hit-stats.ensures in
    hit_told c.args.work.now c.args.strs.now c.args.st.now c.requires.good c.args.s.now c.args.resized p first _ adds ne in_table.1 _ c.known.ensures.state _ c.known.ensures.id

pub table_alloc-requires : goal.table_alloc-requires
table_alloc-requires c =
    let p = probe_of c.lookup-p.result in
    let stops : p.slot ≡ 0 → p.steps < 16 = λ e. c.if-p.true in
    let first = near_first c.args.work.now c.args.strs.now c.args.st.now c.requires.good c.args.s.now c.requires.slots_nonzero.0 16 (lit≤ tt) p c.lookup-p.ensures stops in
    let in_table = probe_in c.args.work.now c.args.strs.now c.args.st.now c.requires.good c.args.s.now c.requires.slots_nonzero.0 c.requires.slots_nonzero.1 p first in
    record {
      good = c.requires.good;
      slots_nonzero = (c.requires.slots_nonzero.0, c.requires.calls_bound.0, c.requires.calls_bound.1);
      at_lt_slots = (in_table.0, in_table.2, in_table.3 ∙ c.if-p-ne0.false);
    }

pub returns-then-p : goal.returns-then-p
returns-then-p c =
    let p = probe_of c.lookup-p.result in
    let stops : p.slot ≡ 0 → p.steps < 16 = λ e. c.if-p.true in
    let first = near_first c.args.work.now c.args.strs.now c.args.st.now c.requires.good c.args.s.now c.requires.slots_nonzero.0 16 (lit≤ tt) p c.lookup-p.ensures stops in
    let told = call_alloc c.args.work.now c.args.strs.now c.args.st.now c.requires.good c.args.s.now c.args.resized p first c.if-p-ne0.false in
    subst (λ (a : Interned). Told c.args.work.now c.args.strs.now c.args.st.now c.table_alloc.new.work c.table_alloc.new.strs c.table_alloc.new.st c.table_alloc.result a)
    told c.table_alloc.ensures
