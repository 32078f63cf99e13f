use Rattle.model.specs.Tape.{segment_codec}
use Rattle.wire.specs.Loops.{Passed}
use Rattle.records.specs.Runs.{test_at}
use Rattle.levels.specs.Below.{level_in}
use Rattle.levels.proofs.Book.run_levels_ok.Given as goal

abbrev pub invariant-loop-i : goal.invariant-loop-i
invariant-loop-i l = Passed (test_at segment_codec (level_in l.self.tape.now l.self.st.now) l.self.tape.now l.run.at) l.i
