use Rattle.ruby_formats.specs.Nodes.{nodes_store, first_nodes}
use Rattle.dependency.specs.Noted.{Noted}
use Rattle.introduces.proofs.note_bases.Given as goal

abbrev pub invariant-loop-i : goal.invariant-loop-i
invariant-loop-i l = Noted (nodes_store l.nodes) (first_nodes l.nodes l.i) l.filter
