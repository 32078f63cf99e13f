use Rattle.std.proofs.Common.{sym, ◌∙◌, refl, arith}
use Rattle.table.specs.Sizes.{size_hi}
use Rattle.interner.specs.Tables.{first_ready, stay_ready, grows_lo, grows_hi, grown_ready}
use Rattle.interner.proofs.StrInterner.table_for.Goals as goal

pub returns-then-self-eq0 : goal.returns-then-self-eq0
returns-then-self-eq0 c =
    first_ready c.args.work.now c.args.strs.now c.args.self.now c.requires _ _ c.clear_part.ensures c.if-self-eq0.true refl _ c.forget.ensures

pub due-requires : goal.due-requires
due-requires c =
    (size_hi c.requires.size, omega (arith, c.requires.most, c.requires.words.few))

pub grow-requires : goal.grow-requires
grow-requires c =
    let ne = c.if-self-eq0.false in
    let due = sym c.due.ensures ∙ c.if-due.true in
    record {
      work = c.requires.words;
      le_n = (grows_lo c.args.work.now c.args.strs.now c.args.self.now c.requires ne due, grows_hi c.args.work.now c.args.strs.now c.args.self.now c.requires ne due);
      entries = c.requires.entries;
    }

pub overflow_mul-self : goal.overflow_mul-self
overflow_mul-self c =
    let hi = grows_hi c.args.work.now c.args.strs.now c.args.self.now c.requires c.if-self-eq0.false (sym c.due.ensures ∙ c.if-due.true) in
    record { fits = omega (arith, hi) }

pub returns-then-due : goal.returns-then-due
returns-then-due c =
    let due = sym c.due.ensures ∙ c.if-due.true in
    grown_ready c.args.work.now c.args.strs.now c.args.self.now c.requires c.if-self-eq0.false due _ _ c.grow.auto.work c.grow.ensures.work_unchanged c.grow.ensures.work_after
    refl _ c.forget-then-due.ensures

pub returns-else-due : goal.returns-else-due
returns-else-due c =
    stay_ready c.args.work.now c.args.strs.now c.args.self.now c.requires c.if-self-eq0.false _ (sym c.due.ensures ∙ c.if-due.false) refl
