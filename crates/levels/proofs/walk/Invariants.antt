use Rattle.std.specs.Prelude.{ℕ, Bool, ◌+◌, ◌-◌, ◌≤◌}
use Rattle.wire.specs.Loops.{Passed}
use Rattle.levels.specs.Table.{Said, Tests}
use Rattle.levels.proofs.walk.Given as goal

abbrev pub invariant-loop-i : goal.invariant-loop-i
invariant-loop-i g l =
    (l.start ≤ l.i) × (l.i ≤ l.start + l.len)
    × ((tabled : Bool) (test : ℕ → Bool) → Said l.table l.level l.start l.len test → Tests tabled test l.len (λ k r. g.F.Fn.post l.passes (k, tt) r) → Passed test (l.i - l.start))

abbrev pub decreases-loop-i : goal.decreases-loop-i
decreases-loop-i g l = l.end - l.i
