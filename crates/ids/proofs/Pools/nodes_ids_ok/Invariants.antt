use Rattle.model.specs.Tape.{node_codec}
use Rattle.wire.specs.Loops.{Passed}
use Rattle.records.specs.Runs.{test_at}
use Rattle.ids.specs.Tests.{node_in}
use Rattle.ids.proofs.Pools.nodes_ids_ok.Given as goal

abbrev pub invariant-loop-i : goal.invariant-loop-i
invariant-loop-i l = Passed (test_at node_codec (node_in l.self.st.now) l.self.tape.now l.run.at) l.i
