use Rattle.model.specs.Tape.{segment_codec}
use Rattle.wire.specs.Loops.{Passed}
use Rattle.records.specs.Runs.{test_at}
use Rattle.ids.specs.Tests.{segment_in}
use Rattle.ids.proofs.Pools.segments_ids_ok.Given as goal

abbrev pub invariant-loop-i : goal.invariant-loop-i
invariant-loop-i l = Passed (test_at segment_codec (segment_in l.self.st.now) l.self.tape.now l.run.at) l.i
