use Rattle.std.proofs.Common.{refl, arith}
use Rattle.model.specs.Tape.{node_codec}
use Rattle.wire.specs.Loops.{missed_none}
use Rattle.records.specs.Runs.{run_missed, run_found, run_nowhere}
use Rattle.ruby_formats.specs.Nodes.{nodes_store}
use Rattle.dependency.specs.Bases.{has_base}
use Rattle.dependency.proofs.is_ruby_base.Goals as goal

pub loop-i-init : goal.loop-i-init
loop-i-init c = missed_none _

pub returns-then-has_base : goal.returns-then-has_base
unfolding node_codec
returns-then-has_base c =
    run_found node_codec (has_base (nodes_store c.args.nodes.now) c.args.s.now) c.args.nodes.now.strings.tape.now c.args.nodes.now.run.at c.loop-i.i _ refl _ c.has_base.ensures _ c.loop-i-test.true c.if-has_base.true

pub loop-i-preserved : goal.loop-i-preserved
unfolding node_codec
loop-i-preserved c =
    run_missed node_codec (has_base (nodes_store c.args.nodes.now) c.args.s.now) c.args.nodes.now.strings.tape.now c.args.nodes.now.run.at c.loop-i.i _ refl _ c.has_base.ensures c.if-has_base.false c.loop-i.invariant

pub returns : goal.returns
returns c =
    run_nowhere node_codec (has_base (nodes_store c.args.nodes.now) c.args.s.now) c.args.nodes.now.strings.tape.now c.args.nodes.now.run.at _ c.loop-i.i (omega arith) c.loop-i.invariant
