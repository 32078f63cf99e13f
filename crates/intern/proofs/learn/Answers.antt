use Rattle.std.proofs.Common.{subst, ◌∙◌, arith}
use Rattle.model.specs.Intern.{Interned}
use Rattle.table.specs.Layout.{probe_of}
use Rattle.stats.specs.Ways.{adds_table_hit}
use Rattle.interner.specs.Lookups.{probe_in, all_first, first_own}
use Rattle.intern.specs.Told.{Told}
use Rattle.intern.proofs.Answers.{call_alloc, learnt_told}
use Rattle.intern.proofs.learn.Goals as goal

pub table_alloc-requires : goal.table_alloc-requires
table_alloc-requires c =
    let p = probe_of c.lookup-p.result in
    let first = all_first c.args.work.now c.args.strs.now c.args.st.now c.requires.good c.args.s.now c.requires.slots_nonzero.0 p c.lookup-p.ensures in
    let in_table = probe_in c.args.work.now c.args.strs.now c.args.st.now c.requires.good c.args.s.now c.requires.slots_nonzero.0 c.requires.slots_nonzero.1 p first in
    record {
      good = c.requires.good;
      slots_nonzero = (c.requires.slots_nonzero.0, c.requires.calls_bound.0, c.requires.calls_bound.1);
      at_lt_slots = (in_table.0, in_table.2, in_table.3 ∙ c.if-p-eq0.true);
    }

pub returns-then-p-eq0 : goal.returns-then-p-eq0
returns-then-p-eq0 c =
    let p = probe_of c.lookup-p.result in
    let first = all_first c.args.work.now c.args.strs.now c.args.st.now c.requires.good c.args.s.now c.requires.slots_nonzero.0 p c.lookup-p.ensures in
    let told = call_alloc c.args.work.now c.args.strs.now c.args.st.now c.requires.good c.args.s.now c.args.resized p first c.if-p-eq0.true in
    subst (λ (a : Interned). Told c.args.work.now c.args.strs.now c.args.st.now c.table_alloc.new.work c.table_alloc.new.strs c.table_alloc.new.st c.table_alloc.result a)
    told c.table_alloc.ensures

pub remember-requires : goal.remember-requires
remember-requires c =
    let p = probe_of c.lookup-p.result in
    let first = all_first c.args.work.now c.args.strs.now c.args.st.now c.requires.good c.args.s.now c.requires.slots_nonzero.0 p c.lookup-p.ensures in
    let ne = c.if-p-eq0.false in
    record {
      good = c.requires.good;
      slots_nonzero = (c.requires.slots_nonzero.0, omega (arith, ne), c.requires.calls_bound.2);
      p_value = first_own c.args.work.now c.args.strs.now c.args.st.now c.requires.good c.args.s.now c.requires.slots_nonzero.0 p ne first;
    }

pub table_hit-stats-requires : goal.table_hit-stats-requires
table_hit-stats-requires c =
    let p = probe_of c.lookup-p.result in
    let first = all_first c.args.work.now c.args.strs.now c.args.st.now c.requires.good c.args.s.now c.requires.slots_nonzero.0 p c.lookup-p.ensures in
    let in_table = probe_in c.args.work.now c.args.strs.now c.args.st.now c.requires.good c.args.s.now c.requires.slots_nonzero.0 c.requires.slots_nonzero.1 p first in
    (c.requires.good.counts, c.requires.calls_bound.0, c.requires.calls_bound.1, in_table.2)

pub returns : goal.returns
returns c =
    let p = probe_of c.lookup-p.result in
    let first = all_first c.args.work.now c.args.strs.now c.args.st.now c.requires.good c.args.s.now c.requires.slots_nonzero.0 p c.lookup-p.ensures in
    let in_table = probe_in c.args.work.now c.args.strs.now c.args.st.now c.requires.good c.args.s.now c.requires.slots_nonzero.0 c.requires.slots_nonzero.1 p first in
    let adds = adds_table_hit _ _ c.requires.good.counts _ _ c.requires.calls_bound.1 in_table.2 c.table_hit-stats.ensures in
    learnt_told c.args.work.now c.args.strs.now c.args.st.now c.requires.good _ c.remember.ensures c.args.s.now c.args.resized p first _ adds c.if-p-eq0.false in_table.1 _ c.known.ensures.state _ c.known.ensures.id
