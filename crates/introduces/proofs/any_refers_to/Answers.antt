use Rattle.std.proofs.Common.{refl, arith}
use Rattle.model.specs.Tape.{node_codec}
use Rattle.wire.specs.Loops.{missed_none}
use Rattle.records.specs.Runs.{run_missed, run_found, run_nowhere}
use Rattle.dependency.specs.Rows.{yes_told, no_told, vain_told}
use Rattle.introduces.specs.Among.{refers_to_first}
use Rattle.introduces.proofs.any_refers_to.Goals as goal
use Rattle.introduces.proofs.any_refers_to.Goals.{in-InVain, in-No}

pub loop-i-init : goal.loop-i-init
loop-i-init c = (missed_none _, omega arith)

pub returns-in-Yes : goal.returns-in-Yes
unfolding node_codec
returns-in-Yes c =
    let of = c.args.filter.now in
    let own = c.args.reading.now in
    let test = refers_to_first of.nodes.now of.count own in
    run_found node_codec test own.strings.tape.now own.run.at c.loop-i.i _ refl _ (yes_told c.in-Yes.ensures) _ c.loop-i-test.true refl

pub loop-i-preserved : goal.loop-i-preserved
unfolding node_codec
loop-i-preserved c =
    let of = c.args.filter.now in
    let own = c.args.reading.now in
    let test = refers_to_first of.nodes.now of.count own in (
      elim c.match-refers_to.branch [
        | in-InVain w ↦ run_missed node_codec test own.strings.tape.now own.run.at c.loop-i.i _ refl _ (vain_told w.in-InVain.ensures) refl c.loop-i.invariant.0
        | in-No w ↦ run_missed node_codec test own.strings.tape.now own.run.at c.loop-i.i _ refl _ (no_told w.in-No.ensures) refl c.loop-i.invariant.0
      ],
      omega arith,
    )

pub returns : goal.returns
unfolding node_codec
returns c =
    let of = c.args.filter.now in
    let own = c.args.reading.now in
    let test = refers_to_first of.nodes.now of.count own in
    run_nowhere node_codec test own.strings.tape.now own.run.at _ c.loop-i.i (omega arith) c.loop-i.invariant.0
