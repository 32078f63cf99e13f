use Rattle.std.specs.Prelude.{◌≡◌, ◌≤◌, length}
use Rattle.representatives.specs.Pairs.{Paired}
use Rattle.representatives.specs.Ordered.{Ordered}
use Rattle.representatives.proofs.pair_all.Given as goal

abbrev pub invariant-loop-i : goal.invariant-loop-i
invariant-loop-i l = (length l.row ≡ length l.initial.row)
    × (length l.words ≡ length l.initial.words)
    × (l.n ≤ l.room)
    × Paired l.strings l.row l.m l.n l.words
    × Ordered l.words l.n l.i
