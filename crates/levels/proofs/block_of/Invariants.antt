use Rattle.std.specs.Prelude.{ℕ, Bool, ◌*◌}
use Rattle.levels.specs.Table.{Bounds, Block}
use Rattle.levels.proofs.block_of.Given as goal

abbrev pub invariant-loop-i : goal.invariant-loop-i
invariant-loop-i g l = (P : ℕ → ℕ → Bool) → Bounds P l.total (λ i m r. g.F.Fn.post l.bound (i, (m, tt)) r) → Block P l.total (16 * l.k) l.i l.m
