use Rattle.std.proofs.Common.{ap, ◌∙◌, arith}
use Rattle.wire.specs.Loops.{passed_more}
use Rattle.records.specs.Uses.{use_number}
use Rattle.ids.specs.Tests.{word_read, body_failed, body_passed, body_rest, ruby_body}
use Rattle.ids.proofs.Pools.body_ids_ok.Goals as goal

pub returns-then-self-at-eq-RUBY : goal.returns-then-self-at-eq-RUBY
returns-then-self-at-eq-RUBY c = c.two_runs_ok.ensures ∙ ruby_body _ _ _ c.if-self-at-eq-RUBY.true

pub returns-in-Unused : goal.returns-in-Unused
returns-in-Unused c =
    body_rest _ _ _ c.loop-i.i c.uses_of-uses.ensures c.loop-i-test.true (ap use_number c.in-Unused.is) c.loop-i.invariant

pub returns-then-not-word_ok : goal.returns-then-not-word_ok
returns-then-not-word_ok c =
    let read = word_read c.args.self.now.st.now c.args.self.now.tape.now c.args.at c.loop-i.i c.uses_of-uses.ensures c.loop-i-test.true c.word_ok.ensures in
    body_failed _ _ c.loop-i.i c.loop-i-test.true (read ∙ c.if-not-word_ok.true)

pub loop-i-preserved : goal.loop-i-preserved
loop-i-preserved c =
    let read = word_read c.args.self.now.st.now c.args.self.now.tape.now c.args.at c.loop-i.i c.uses_of-uses.ensures c.loop-i-test.true c.word_ok.ensures in
    passed_more _ _ c.loop-i.invariant (read ∙ c.if-not-word_ok.false)

pub returns : goal.returns
returns c = body_passed _ _ c.loop-i.i (omega arith) (omega arith) c.loop-i.invariant
