use Rattle.std.proofs.Common.{◌≡◌, ◌≤◌, min, length}
use Rattle.ruby_formats.specs.Nodes.{first_nodes}
use Rattle.dependency.specs.Rows.{Rowed}
use Rattle.introduces.proofs.row_of.Given as goal

abbrev pub invariant-loop-i : goal.invariant-loop-i
invariant-loop-i l = (length l.row ≡ length l.initial.row) × (l.m ≤ l.i) × Rowed l.nodes.strings (first_nodes l.nodes (min l.n l.i)) l.row l.m
