use Rattle.std.proofs.Common.{refl, sym, ap, ◌∙◌, arith}
use Rattle.levels.specs.Told.{told, told_no}
use Rattle.levels.specs.Below.{word_read, body_failed, body_passed, body_rest}
use Rattle.records.specs.Values.{body_at}
use Rattle.records.specs.Uses.{use_number}
use Rattle.wire.specs.Loops.{passed_none, passed_more}
use Rattle.levels.proofs.Book.body_below.Goals as goal

pub loop-i-init : goal.loop-i-init
loop-i-init c =
    passed_none _

pub returns-in-Unused : goal.returns-in-Unused
returns-in-Unused c =
    told (body_rest c.args.self.now.tape.now c.args.self.now.st.now c.args.level c.args.at c.loop-i.i c.uses_of-uses.ensures c.loop-i-test.true (ap use_number c.in-Unused.is) c.loop-i.invariant)

pub returns-then-not-word_below : goal.returns-then-not-word_below
returns-then-not-word_below c =
    let tape = c.args.self.now.tape.now in
    let st = c.args.self.now.st.now in
    told_no c.word_below.ensures c.if-not-word_below.true
    (λ n. body_failed tape st c.args.level (body_at tape c.args.at) c.loop-i.i c.loop-i-test.true (word_read tape st c.args.level c.args.at c.loop-i.i c.uses_of-uses.ensures c.loop-i-test.true refl ∙ n))

pub loop-i-preserved : goal.loop-i-preserved
loop-i-preserved c =
    passed_more _ _ c.loop-i.invariant (word_read c.args.self.now.tape.now c.args.self.now.st.now c.args.level c.args.at c.loop-i.i c.uses_of-uses.ensures c.loop-i-test.true (sym (c.word_below.ensures.sure c.if-not-word_below.false)))

pub returns : goal.returns
returns c =
    told (body_passed c.args.self.now.tape.now c.args.self.now.st.now c.args.level (body_at c.args.self.now.tape.now c.args.at) c.loop-i.i (omega arith) (omega arith) c.loop-i.invariant)
