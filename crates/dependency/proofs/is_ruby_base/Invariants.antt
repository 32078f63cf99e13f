use Rattle.model.specs.Tape.{node_codec}
use Rattle.wire.specs.Loops.{Missed}
use Rattle.records.specs.Runs.{test_at}
use Rattle.ruby_formats.specs.Nodes.{nodes_store}
use Rattle.dependency.specs.Bases.{has_base}
use Rattle.dependency.proofs.is_ruby_base.Given as goal

abbrev pub invariant-loop-i : goal.invariant-loop-i
invariant-loop-i l = Missed (test_at node_codec (has_base (nodes_store l.nodes) l.s) l.nodes.strings.tape.now l.nodes.run.at) l.i
