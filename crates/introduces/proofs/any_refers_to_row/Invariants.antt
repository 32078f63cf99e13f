use Rattle.model.specs.Tape.{node_codec}
use Rattle.wire.specs.Loops.{Missed}
use Rattle.records.specs.Runs.{test_at}
use Rattle.ruby_formats.specs.Nodes.{nodes_store}
use Rattle.introduces.specs.Rows.{refers_to_row}
use Rattle.introduces.proofs.any_refers_to_row.Given as goal

abbrev pub invariant-loop-i : goal.invariant-loop-i
invariant-loop-i l = Missed (test_at node_codec (refers_to_row l.row (nodes_store l.reading)) l.reading.strings.tape.now l.reading.run.at) l.i
