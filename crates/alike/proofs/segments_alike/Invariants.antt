use Prim.Native.Nat.{ℕ, ◌+◌, ◌*◌}
use Rattle.records.specs.Values.{body_at}
use Rattle.alike.specs.Alike.{Alike}
use Rattle.alike.proofs.segments_alike.Given as goal

abbrev pub invariant-loop-k : goal.invariant-loop-k
invariant-loop-k l = Alike (λ (j : ℕ). body_at l.tape (l.at + 37 * j + 3)) l.most l.k
