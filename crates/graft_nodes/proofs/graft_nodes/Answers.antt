use Rattle.std.proofs.Common.{◌+◌, ◌*◌, refl, arith}
use Rattle.graft.specs.Blocks.{Apart.beyond}
use Rattle.graft.specs.Loop.{items_first, item_ready, item_known, item_turn, items_more, items_refused, items_last}
use Rattle.graft.specs.Kinds.{node_grafts}
use Rattle.graft_nodes.proofs.graft_nodes.Goals as goal

pub loop-i-init : goal.loop-i-init
loop-i-init c =
    items_first (node_grafts c.args.w.now.source) c.args.run.at c.args.run.count c.args.nodesat c.requires.ready c.requires.count_in_bounds.1

pub graft_node_at-requires : goal.graft_node_at-requires
graft_node_at-requires c =
    record {
      ready = item_ready (node_grafts c.args.w.now.source) c.args.run.at c.args.run.count c.args.nodesat c.requires.ready c.requires.count_in_bounds.1 c.loop-i.invariant (omega arith);
      at_in_bounds = (omega (arith, c.requires.count_in_bounds.0), item_known (node_grafts c.args.w.now.source) c.args.run.at c.args.run.count c.args.nodesat c.requires.ready c.requires.count_in_bounds.1 c.loop-i.i (omega arith), omega (arith, c.requires.count_bound.1, c.loop-i.invariant.long));
    }

pub returns-in_err-graft_node_at : goal.returns-in_err-graft_node_at
returns-in_err-graft_node_at c =
    rw c.from_residual.ensures (items_refused (node_grafts c.args.w.now.source) c.args.run.at c.args.run.count c.args.nodesat c.requires.ready c.requires.count_in_bounds.1 (c.loop-i.i + 1) (omega arith) (item_turn (node_grafts c.args.w.now.source) c.args.run.at c.args.run.count c.args.nodesat c.requires.ready c.requires.count_in_bounds.1 c.loop-i.invariant (omega arith) (beyond c.requires.count_bound.0 c.requires.count_bound.1) (c.args.nodesat + 49 * c.loop-i.i) refl c.in_err-graft_node_at.ensures))

pub loop-i-preserved : goal.loop-i-preserved
loop-i-preserved c =
    items_more (node_grafts c.args.w.now.source) c.args.run.at c.args.run.count c.args.nodesat c.requires.ready c.requires.count_in_bounds.1 c.loop-i.invariant (omega arith) (beyond c.requires.count_bound.0 c.requires.count_bound.1) (c.args.nodesat + 49 * c.loop-i.i) refl c.in_ok-graft_node_at.ensures c.graft_node_at.auto.out refl

pub returns : goal.returns
returns c =
    items_last (node_grafts c.args.w.now.source) c.args.run.at c.args.run.count c.args.nodesat c.requires.ready c.requires.count_in_bounds.1 c.loop-i.invariant (omega arith) (omega arith)
