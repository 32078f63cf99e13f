use Rattle.std.proofs.Common.{sym, ap, ◌∙◌, Bool, cond, arith}
use Rattle.table.specs.Sizes.{is_due, size_hi, one_or_none}
use Rattle.interner.specs.declared.StrInterner.{StrInterner as Interner}
use Rattle.interner.specs.Lookups.{last_there}
use Rattle.interner.specs.Tables.{grows_is}
use Rattle.intern.proofs.Answers.{intern_bypass, intern_told}
use Rattle.intern.proofs.intern.Goals as goal

pub intern_last-requires : goal.intern_last-requires
intern_last-requires c =
    record {
      last_nonzero = (last_there c.args.work.now c.args.strs.now c.args.st.now c.requires.good c.args.s.now (sym c.is_last.ensures ∙ c.if-is_last.true), omega (arith, c.requires.good.known, c.requires.good.words.few));
      counted = (c.requires.good.counts, c.requires.calls_bound);
    }

pub returns-then-is_last : goal.returns-then-is_last
returns-then-is_last c =
    c.intern_last.ensures c.args.work.now c.args.strs.now c.args.s.now c.requires.good (sym c.is_last.ensures ∙ c.if-is_last.true)

pub returns-then-s-gt-INTERN_LENGTH_LIMIT : goal.returns-then-s-gt-INTERN_LENGTH_LIMIT
returns-then-s-gt-INTERN_LENGTH_LIMIT c =
    intern_bypass c.args.work.now c.args.strs.now c.args.st.now c.requires.good c.args.s.now _ c.is_last.ensures _ _ _ _ c.if-is_last.false c.if-s-gt-INTERN_LENGTH_LIMIT.true c.bypass.ensures

pub resizes-resized-requires : goal.resizes-resized-requires
resizes-resized-requires c =
    (size_hi c.requires.good.size, omega (arith, c.requires.good.most, c.requires.good.words.few))

pub table_call-requires : goal.table_call-requires
table_call-requires c =
    let y = c.table_for.ensures in
    record {
      good = y.good;
      slots_nonzero = (y.some, y.roomy);
      calls_bound = (omega (arith, ap (λ (x : Interner). x.stats.calls) y.is, c.requires.calls_bound), omega (arith, c.resizes-resized.ensures, one_or_none (is_due c.args.st.now.slots c.args.st.now.occupied)));
    }

pub returns : goal.returns
returns c =
    intern_told c.args.work.now c.args.strs.now c.args.st.now c.requires.good c.args.s.now _ c.is_last.ensures _ _ _ _ _ _ _ c.if-is_last.false c.if-s-gt-INTERN_LENGTH_LIMIT.false c.table_for.ensures (c.resizes-resized.ensures ∙ ap (λ (b : Bool). cond b 1 0) (sym (grows_is c.args.work.now c.args.strs.now c.args.st.now c.requires.good))) c.table_call.ensures
