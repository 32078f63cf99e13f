use Rattle.std.proofs.Common.{ℕ, ◌≡◌, ◌≤◌, length}
use Rattle.std.specs.Prelude.{min}
use Rattle.ruby_formats.specs.Nodes.{nodes_store, first_nodes}
use Rattle.introduces.specs.Pieces.{Unreferred}
use Rattle.introduces.proofs.refers_in_parts.Given as goal

abbrev pub invariant-loop-i : goal.invariant-loop-i
invariant-loop-i l = (length l.words ≡ length l.initial.words)
    × ((k : ℕ) → k ≡ min l.i l.nodes.run.count → Unreferred (nodes_store l.nodes) (nodes_store l.reading) (first_nodes l.reading l.reading.run.count) l.nodes.strings.tape.now l.nodes.run.at k)
    × (l.size ≤ length l.initial.words)
