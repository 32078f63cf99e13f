use Prim.Native.Nat.{ℕ, ◌+◌, ◌*◌}
use Rattle.alike.specs.Alike.{Alike}
use Rattle.model.specs.Tape.{record_at, content_codec}
use Rattle.alike.proofs.contents_alike.Given as goal

abbrev pub invariant-loop-k : goal.invariant-loop-k
invariant-loop-k l = Alike (λ (j : ℕ). record_at content_codec l.tape (l.at + 10 * j)) l.most l.k
