use Rattle.std.proofs.Common.{refl, sym, true, arith}
use Rattle.levels.specs.Below.{content_below}
use Rattle.wire.specs.Loops.{passed_none}
use Rattle.records.specs.Runs.{run_failed, run_more, run_passed}
use Rattle.levels.specs.Told.{told, told_no}
use Rattle.model.specs.Tape.{content_codec}
use Rattle.levels.proofs.Book.run_below.Goals as goal

pub loop-i-init : goal.loop-i-init
loop-i-init c =
    passed_none _

pub returns-then-not-content_below : goal.returns-then-not-content_below
unfolding content_codec
returns-then-not-content_below c =
    told_no c.content_below.ensures c.if-not-content_below.true
    (λ n. run_failed content_codec (content_below c.args.self.now.tape.now c.args.self.now.st.now c.args.level) c.args.self.now.tape.now c.args.run.at c.loop-i.i _ refl _ refl _ c.loop-i-test.true n)

pub loop-i-preserved : goal.loop-i-preserved
unfolding content_codec
loop-i-preserved c =
    run_more content_codec (content_below c.args.self.now.tape.now c.args.self.now.st.now c.args.level) c.args.self.now.tape.now c.args.run.at c.loop-i.i _ refl true (sym (c.content_below.ensures.sure c.if-not-content_below.false)) refl c.loop-i.invariant

pub returns : goal.returns
returns c =
    told (run_passed content_codec (content_below c.args.self.now.tape.now c.args.self.now.st.now c.args.level) c.args.self.now.tape.now c.args.run.at _ c.loop-i.i (omega arith) c.loop-i.invariant)
