-- How far runs reach that stand one behind the other, by the counts that the code has: a layer's at most 36 bytes past the tape's
-- end, the four lists' at most 48. So no place overflows.
use Rattle.std.specs.Prelude.{◌≡◌, ℕ, ◌+◌, ◌*◌, ◌≤◌, ◌<◌, List, length, drop}
use Rattle.std.proofs.Common.{arith}
use Rattle.model.specs.Tape.{records_in}
use Rattle.places.specs.Runs.{run_reach}

run_end_lem : (command size far : ℕ) (t : List ℕ) (p r : ℕ) → r ≡ records_in command size 0 (drop p t) → 1 ≤ size → size ≤ far + 1 → p ≤ length t + far
    → p + size * r ≤ length t + far
run_end_lem command size far t p r e z s h = rw e (run_reach command size t p (length t + far) z h (omega arith))

module _ (t : List ℕ) (at a : ℕ) (h : at < length t) (e : a ≡ records_in 3 5 0 (drop (at + 1) t)) where
  pub strings_end_lem : at + 1 + 5 * a ≤ length t + 36
  strings_end_lem = run_end_lem 3 5 36 t (at + 1) a e (omega arith) (omega arith) (omega arith)

  module _ (b : ℕ) (f : b ≡ records_in 4 10 0 (drop (at + 1 + 5 * a) t)) where
    pub contents_end : at + 1 + 5 * a + 10 * b ≤ length t + 36
    contents_end = run_end_lem 4 10 36 t (at + 1 + 5 * a) b f (omega arith) (omega arith) strings_end_lem

    pub segments_end : (g : ℕ) → g ≡ records_in 5 37 0 (drop (at + 1 + 5 * a + 10 * b) t) → at + 1 + 5 * a + 10 * b + 37 * g ≤ length t + 36
    segments_end g k = run_end_lem 5 37 36 t (at + 1 + 5 * a + 10 * b) g k (omega arith) (omega arith) contents_end

module _ (t : List ℕ) (at a : ℕ) (h : at ≤ length t + 36) (e : a ≡ records_in 6 49 0 (drop at t)) where
  pub nodes_end : at + 49 * a ≤ length t + 48
  nodes_end = run_end_lem 6 49 48 t at a e (omega arith) (omega arith) (omega arith)

  module _ (b : ℕ) (f : b ≡ records_in 7 18 0 (drop (at + 49 * a) t)) where
    pub pairs_end : at + 49 * a + 18 * b ≤ length t + 48
    pairs_end = run_end_lem 7 18 48 t (at + 49 * a) b f (omega arith) (omega arith) nodes_end

    module _ (c : ℕ) (g : c ≡ records_in 8 13 0 (drop (at + 49 * a + 18 * b) t)) where
      pub containers_end : at + 49 * a + 18 * b + 13 * c ≤ length t + 48
      containers_end = run_end_lem 8 13 48 t (at + 49 * a + 18 * b) c g (omega arith) (omega arith) pairs_end

      pub diagnostics_end : (d : ℕ) → d ≡ records_in 9 18 0 (drop (at + 49 * a + 18 * b + 13 * c) t) → at + 49 * a + 18 * b + 13 * c + 18 * d ≤ length t + 48
      diagnostics_end d k = run_end_lem 9 18 48 t (at + 49 * a + 18 * b + 13 * c) d k (omega arith) (omega arith) containers_end
