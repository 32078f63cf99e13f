use Rattle.std.proofs.Common.{refl, arith}
use Rattle.model.specs.Tape.{node_codec}
use Rattle.wire.specs.Loops.{missed_none}
use Rattle.records.specs.Runs.{run_missed, run_found, run_nowhere}
use Rattle.ruby_formats.specs.Nodes.{nodes_store}
use Rattle.introduces.specs.Rows.{refers_to_row}
use Rattle.introduces.proofs.any_refers_to_row.Goals as goal

pub loop-i-init : goal.loop-i-init
loop-i-init c = missed_none _

pub returns-then-refers_first_to_row : goal.returns-then-refers_first_to_row
unfolding node_codec
returns-then-refers_first_to_row c =
    let own = c.args.reading.now in
    let test = refers_to_row c.args.row.now (nodes_store own) in
    run_found node_codec test own.strings.tape.now own.run.at c.loop-i.i _ refl _ c.refers_first_to_row.ensures _ c.loop-i-test.true c.if-refers_first_to_row.true

pub loop-i-preserved : goal.loop-i-preserved
unfolding node_codec
loop-i-preserved c =
    let own = c.args.reading.now in
    let test = refers_to_row c.args.row.now (nodes_store own) in
    run_missed node_codec test own.strings.tape.now own.run.at c.loop-i.i _ refl _ c.refers_first_to_row.ensures c.if-refers_first_to_row.false c.loop-i.invariant

pub returns : goal.returns
returns c =
    let own = c.args.reading.now in
    let test = refers_to_row c.args.row.now (nodes_store own) in
    run_nowhere node_codec test own.strings.tape.now own.run.at _ c.loop-i.i (omega arith) c.loop-i.invariant
