use Rattle.std.proofs.Common.{◌≤◌}
use Rattle.model.specs.Tape.{node_codec}
use Rattle.wire.specs.Loops.{Missed}
use Rattle.records.specs.Runs.{test_at}
use Rattle.introduces.specs.Among.{refers_to_first}
use Rattle.introduces.proofs.any_refers_to.Given as goal

abbrev pub invariant-loop-i : goal.invariant-loop-i
invariant-loop-i l = Missed (test_at node_codec (refers_to_first l.filter.nodes.now l.filter.count l.reading) l.reading.strings.tape.now l.reading.run.at) l.i
    × (l.vain ≤ 128)
