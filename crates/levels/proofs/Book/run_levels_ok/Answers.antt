use Rattle.std.proofs.Common.{refl, sym, true, arith}
use Rattle.levels.specs.Told.{told, told_no}
use Rattle.model.specs.Tape.{segment_codec}
use Rattle.wire.specs.Loops.{passed_none}
use Rattle.records.specs.Runs.{run_failed, run_more, run_passed}
use Rattle.levels.specs.Below.{level_in}
use Rattle.levels.proofs.Book.run_levels_ok.Goals as goal

pub loop-i-init : goal.loop-i-init
loop-i-init c = passed_none _

pub returns-then-not-level_ok : goal.returns-then-not-level_ok
unfolding segment_codec
returns-then-not-level_ok c =
    told_no c.level_ok.ensures c.if-not-level_ok.true
    (λ n. run_failed segment_codec (level_in c.args.self.now.tape.now c.args.self.now.st.now) c.args.self.now.tape.now c.args.run.at c.loop-i.i _ refl _ refl _ c.loop-i-test.true n)

pub loop-i-preserved : goal.loop-i-preserved
unfolding segment_codec
loop-i-preserved c =
    run_more segment_codec (level_in c.args.self.now.tape.now c.args.self.now.st.now) c.args.self.now.tape.now c.args.run.at c.loop-i.i _ refl true (sym (c.level_ok.ensures.sure c.if-not-level_ok.false)) refl c.loop-i.invariant

pub returns : goal.returns
returns c =
    told (run_passed segment_codec (level_in c.args.self.now.tape.now c.args.self.now.st.now) c.args.self.now.tape.now c.args.run.at _ c.loop-i.i (omega arith) c.loop-i.invariant)
