use Rattle.std.proofs.Common.{arith}
use Rattle.splice.specs.Kinds.{node_kind}
use Rattle.splice.specs.Window.{window_value}
use Rattle.splice_nodes.specs.Placed.{placed_first, placed_more, placed_last}
use Rattle.splice_nodes.proofs.place_nodes.Goals as goal

pub loop-i-init : goal.loop-i-init
loop-i-init c = placed_first node_kind (window_value c.args.w) c.args.out.now c.args.at

pub loop-i-preserved : goal.loop-i-preserved
loop-i-preserved c = placed_more node_kind (window_value c.args.w) c.args.out.now c.args.at c.loop-i.invariant c.args.count c.loop-i-test.true c.requires c.place_node.ensures

pub returns : goal.returns
returns c = placed_last node_kind (window_value c.args.w) c.args.out.now c.args.at c.loop-i.invariant c.args.count (omega arith)
