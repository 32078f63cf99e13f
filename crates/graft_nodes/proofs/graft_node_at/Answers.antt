use Rattle.std.proofs.Common.{arith}
use Rattle.graft_nodes.specs.Nodes.{ref_refused, ref_made}
use Rattle.graft_nodes.proofs.graft_node_at.Goals as goal

pub returns-in_err-words : goal.returns-in_err-words
returns-in_err-words c =
    rw c.from_residual.ensures (ref_refused c.args.w.now.tape.now c.args.w.now.bytes.now c.args.w.now.st.now c.args.at c.args.w.now.plan c.args.m.now c.args.to c.args.out.now c.args.work.now c.args.strs.now c.in_err-words.ensures)

pub put_node-requires : goal.put_node-requires
put_node-requires c =
    omega (arith, c.requires.at_in_bounds.2, c.graft_node.auto.out)

pub returns : goal.returns
returns c =
    ref_made c.args.w.now.tape.now c.args.w.now.bytes.now c.args.w.now.st.now c.args.at c.args.w.now.plan c.args.m.now c.args.to c.args.out.now c.args.work.now c.args.strs.now c.node_at-n.result c.node_at-n.ensures c.in_ok-words.words c.in_ok-words.ensures c.put_node.ensures
