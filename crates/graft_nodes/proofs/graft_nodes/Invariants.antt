use Rattle.std.proofs.Common.{List}
use Rattle.model.specs.Types.{SourceNode}
use Rattle.model.specs.Tape.{node_codec}
use Rattle.model.specs.Graft.{graft_node_refs}
use Rattle.graft.specs.NodeItems.{shown_of}
use Rattle.graft.specs.Loop.{ItemsUpTo}
use Rattle.graft_nodes.proofs.graft_nodes.Given as goal

abbrev pub invariant-loop-i : goal.invariant-loop-i
invariant-loop-i l = ItemsUpTo l.w.tape.now l.w.bytes.now node_codec (λ (ns : List SourceNode). graft_node_refs (shown_of l.w.tape.now l.w.bytes.now ns)) l.w.plan l.initial.m l.run.at l.nodesat l.initial.out l.initial.work l.initial.strs l.out l.work l.strs l.m l.i
