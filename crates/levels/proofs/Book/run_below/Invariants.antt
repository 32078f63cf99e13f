use Rattle.levels.specs.Below.{content_below}
use Rattle.wire.specs.Loops.{Passed}
use Rattle.records.specs.Runs.{test_at}
use Rattle.model.specs.Tape.{content_codec}
use Rattle.levels.proofs.Book.run_below.Given as goal

abbrev pub invariant-loop-i : goal.invariant-loop-i
invariant-loop-i l = Passed (test_at content_codec (content_below l.self.tape.now l.self.st.now l.level) l.self.tape.now l.run.at) l.i
