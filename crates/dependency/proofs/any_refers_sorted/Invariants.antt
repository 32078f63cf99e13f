use Rattle.std.proofs.Common.{◌≡◌, ◌≤◌, min, length}
use Rattle.ruby_formats.specs.Nodes.{first_nodes}
use Rattle.dependency.specs.Later.{Left}
use Rattle.dependency.specs.Among.{refers_first}
use Rattle.dependency.specs.Rows.{Rowed}
use Rattle.dependency.proofs.any_refers_sorted.Given as goal

abbrev pub invariant-loop-i : goal.invariant-loop-i
invariant-loop-i l = (length l.row ≡ length l.initial.row)
    × (l.m ≤ l.i)
    × Rowed l.nodes.strings (first_nodes l.nodes (min l.n l.i)) l.row l.m
    × Left (refers_first l.nodes l.from.0 l.n) l.nodes.run.count l.i
