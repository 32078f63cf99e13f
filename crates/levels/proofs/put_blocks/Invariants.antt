use Rattle.std.specs.Prelude.{◌≡◌, ℕ, Bool, length}
use Rattle.levels.specs.Table.{Bounds, Filled}
use Rattle.levels.proofs.put_blocks.Given as goal

abbrev pub invariant-loop-k : goal.invariant-loop-k
invariant-loop-k g l = (length l.table ≡ length l.initial.table) × ((P : ℕ → ℕ → Bool) → Bounds P l.total (λ i m r. g.F.Fn.post l.bound (i, (m, tt)) r) → Filled P l.total l.table l.k)
