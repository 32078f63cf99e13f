use Rattle.model.specs.Tape.{content_codec}
use Rattle.wire.specs.Loops.{Passed}
use Rattle.records.specs.Runs.{test_at}
use Rattle.ids.specs.Tests.{content_in}
use Rattle.ids.proofs.Pools.contents_ids_ok.Given as goal

abbrev pub invariant-loop-i : goal.invariant-loop-i
invariant-loop-i l = Passed (test_at content_codec (content_in l.self.st.now) l.self.tape.now l.run.at) l.i
