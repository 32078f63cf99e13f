use Rattle.std.proofs.Common.{ℕ, ◌≡◌, ◌≤◌, length}
use Rattle.std.specs.Prelude.{min}
use Rattle.wire.specs.Loops.{Missed}
use Rattle.dependency.specs.Among.{refers_first}
use Rattle.dependency.proofs.refers_in_parts.Given as goal

abbrev pub invariant-loop-i : goal.invariant-loop-i
invariant-loop-i l = (length l.words ≡ length l.initial.words)
    × ((k : ℕ) → k ≡ min l.i l.nodes.run.count → Missed (refers_first l.nodes l.from.0 k) l.nodes.run.count)
    × (l.size ≤ length l.initial.words)
