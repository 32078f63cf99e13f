use Rattle.std.proofs.Common.{◌≤◌, min}
use Rattle.wire.specs.Loops.{Missed}
use Rattle.ruby_formats.specs.Nodes.{nodes_store, first_nodes}
use Rattle.dependency.specs.Noted.{Noted}
use Rattle.dependency.specs.Among.{refers_first}
use Rattle.dependency.proofs.any_refers_among.Given as goal

abbrev pub invariant-loop-i : goal.invariant-loop-i
invariant-loop-i l = Noted (nodes_store l.nodes) (first_nodes l.nodes (min l.n l.i)) l.filter × Missed (refers_first l.nodes l.from.0 l.n) l.i × (l.vain ≤ 128)
