use Rattle.std.proofs.Common.{refl, arith}
use Rattle.model.specs.Tape.{node_codec}
use Rattle.wire.specs.Loops.{passed_none}
use Rattle.records.specs.Runs.{run_failed, run_more, run_passed}
use Rattle.ids.specs.Tests.{node_in}
use Rattle.ids.proofs.Pools.nodes_ids_ok.Goals as goal

pub loop-i-init : goal.loop-i-init
loop-i-init c = passed_none _

pub returns-then-not-node_ids_ok : goal.returns-then-not-node_ids_ok
unfolding node_codec
returns-then-not-node_ids_ok c =
    run_failed node_codec (node_in c.args.self.now.st.now) c.args.self.now.tape.now c.args.run.at c.loop-i.i _ refl _ c.node_ids_ok.ensures _ c.loop-i-test.true c.if-not-node_ids_ok.true

pub loop-i-preserved : goal.loop-i-preserved
unfolding node_codec
loop-i-preserved c =
    run_more node_codec (node_in c.args.self.now.st.now) c.args.self.now.tape.now c.args.run.at c.loop-i.i _ refl _ c.node_ids_ok.ensures c.if-not-node_ids_ok.false c.loop-i.invariant

pub returns : goal.returns
returns c =
    run_passed node_codec (node_in c.args.self.now.st.now) c.args.self.now.tape.now c.args.run.at _ c.loop-i.i (omega arith) c.loop-i.invariant
