-- Laws of runs of records: `records_in` one record further, how far a run reaches, and the sum of a run of strings.
use Rattle.std.specs.Prelude.{◌≡◌, Bool, ◌&&◌, drop, eqb}
use Rattle.std.proofs.Math.Path.{refl}
use Rattle.std.proofs.Common.{sym, ap, add-mul, drop_of_length-le, length-drop, drop-cons, drop-drop}
use Prim.Native.Nat.{ℕ, zero, suc, ◌+◌, ◌-◌, ◌*◌, ◌≤◌, ◌<◌, min, max}
use native.Mathlib.Omega.{arith}
use Rattle.std.proofs.Math.Nat.{mul-suc, mul-zero}
use Rattle.std.proofs.Math.Bool.{true, false, cond}
use mathlib.Core.List.{List, [], ◌∷◌}
use Rattle.std.proofs.Math.ListN.{length}
use borrow.Author.Tests.{eq-eqb, ne_eqb, eqb-true}
use Rattle.model.specs.Lists.{sum}
use Rattle.model.specs.Bytes.{byte_at, word_at}
use Rattle.model.specs.Tape.{records_in, records_at, record_at, operands_at, string_codec}
use Rattle.facts.specs.Truth.{both}
use Rattle.laws.specs.Records.{records_skip}
use Rattle.wire.specs.Loops.{sum_to, sum_tabulate}

-- a sum that is known only up to room: over, it is room + 1
abbrev pub capped : ℕ → ℕ → ℕ
capped room n = min n (room + 1)

-- ---- one record further

module _ (command size : ℕ) where
  pub records_past : (t : List ℕ) (p : ℕ) → length t ≤ p → records_in command size 0 (drop p t) ≡ 0
  unfolding records_in
  records_past t p h = rw (drop_of_length-le t h)

  pub records_other : (t : List ℕ) (p : ℕ) → p < length t → (byte_at t p ≡ command → ⊥) → records_in command size 0 (drop p t) ≡ 0
  unfolding records_in
  records_other t p h e = rw (drop-cons t p 0 h, ne_eqb (byte_at t p) command e)

  pub records_more : (t : List ℕ) (p : ℕ) → 1 ≤ size → p < length t → byte_at t p ≡ command
      → records_in command size 0 (drop p t) ≡ suc (records_in command size 0 (drop (p + size) t))
  unfolding records_in
  records_more t p z h e =
      let next : suc p + (size - 1) ≡ p + size = omega arith in
      rw (drop-cons t p 0 h, eq-eqb (byte_at t p) command e, records_skip command size (size - 1) (drop (suc p) t), drop-drop)
      (ap (λ (k : ℕ). suc (records_in command size 0 (drop k t))) next)

  -- a run ends inside, or its last record reaches less than a record past the end
  records_reach : (k : ℕ) (t : List ℕ) → 1 ≤ size → k < size → size * records_in command size k t + k ≤ length t + (size - 1)
  unfolding records_in
  records_reach k [] z h = rw mul-zero (omega arith)
  records_reach zero (b ∷ t) z h = go (records_reach (size - 1) t z (omega arith)) (eqb b command)
    where
      go : size * records_in command size (size - 1) t + (size - 1) ≤ length t + (size - 1)
          → (x : Bool) → size * cond x (suc (records_in command size (size - 1) t)) 0 + 0 ≤ suc (length t) + (size - 1)
      go more true = rw mul-suc (omega arith)
      go more false = rw mul-zero (omega arith)
  records_reach (suc k) (b ∷ t) z h = let more = records_reach k t z (omega arith) in omega arith

  -- where a run from p on ends
  pub run_reach : (t : List ℕ) (p q : ℕ) → 1 ≤ size → p ≤ q → length t + (size - 1) ≤ q → p + size * records_in command size 0 (drop p t) ≤ q
  run_reach t p q z h g = go (length t - p) refl
    where
      reach : size * records_in command size 0 (drop p t) + 0 ≤ length (drop p t) + (size - 1)
      reach = records_reach 0 (drop p t) z z

      go : (m : ℕ) → length t - p ≡ m → p + size * records_in command size 0 (drop p t) ≤ q
      go zero e = rw (records_past t p (omega arith), mul-zero) (omega arith)
      go (suc m) e = let l = length-drop p t in omega (arith, reach, l)

-- ---- the loop of `count_at_lem`: n records passed, the next at `place`

pub record Counted (command size : ℕ) (t : List ℕ) (at n place : ℕ) : Type 0 where
  pub is : records_in command size 0 (drop at t) ≡ n + records_in command size 0 (drop place t)
  pub low : at + n ≤ place

pub counted_none : (command size : ℕ) (t : List ℕ) (at : ℕ) → Counted command size t at 0 at
counted_none command size t at = record { is = omega arith; low = omega arith }

module _ {command size : ℕ} {t : List ℕ} {at n place : ℕ} (c : Counted command size t at n place) where
  pub counted_more : 1 ≤ size → place < length t → byte_at t place ≡ command → Counted command size t at (n + 1) (place + size)
  counted_more z h e = record {
    is = let m = records_more command size t place z h e in omega (arith, c.is, m);
    low = omega (arith, c.low);
  }

  pub counted_other : place < length t → (byte_at t place ≡ command → ⊥) → n ≡ records_in command size 0 (drop at t)
  counted_other h e = let m = records_other command size t place h e in omega (arith, c.is, m)

  pub counted_past : length t ≤ place → n ≡ records_in command size 0 (drop at t)
  counted_past h = let m = records_past command size t place h in omega (arith, c.is, m)

-- ---- eight records at once

unfoldable pub eight_at : ℕ → ℕ → List ℕ → ℕ → Bool
eight_at command size t at =
    eqb (byte_at t at) command && eqb (byte_at t (at + size)) command
    && eqb (byte_at t (at + 2 * size)) command && eqb (byte_at t (at + 3 * size)) command && eqb (byte_at t (at + 4 * size)) command
    && eqb (byte_at t (at + 5 * size)) command && eqb (byte_at t (at + 6 * size)) command && eqb (byte_at t (at + 7 * size)) command

module _ {command size : ℕ} {t : List ℕ} {at : ℕ} (z : 1 ≤ size) where
  counted_to : {n place : ℕ} → Counted command size t at n place → place < length t → eqb (byte_at t place) command ≡ true
      → (m next : ℕ) → m ≡ n + 1 → next ≡ place + size → Counted command size t at m next
  counted_to {n} {place} c h e m next f g = rw (f, g) (counted_more c z h (eqb-true (byte_at t place) command e))

  pub counted_eight : {n place : ℕ} → Counted command size t at n place → place + 7 * size < length t → eight_at command size t place ≡ true
      → Counted command size t at (n + 8) (place + 8 * size)
  unfolding eight_at
  counted_eight {n} {place} c h e =
      let e7 = both _ _ e in
      let e6 = both _ _ e7.0 in
      let e5 = both _ _ e6.0 in
      let e4 = both _ _ e5.0 in
      let e3 = both _ _ e4.0 in
      let e2 = both _ _ e3.0 in
      let e1 = both _ _ e2.0 in
      let c1 = counted_to c (omega arith) e1.0 (n + 1) (place + size) (omega arith) (omega arith) in
      let c2 = counted_to c1 (omega arith) e1.1 (n + 2) (place + 2 * size) (omega arith) (omega arith) in
      let c3 = counted_to c2 (omega arith) e2.1 (n + 3) (place + 3 * size) (omega arith) (omega arith) in
      let c4 = counted_to c3 (omega arith) e3.1 (n + 4) (place + 4 * size) (omega arith) (omega arith) in
      let c5 = counted_to c4 (omega arith) e4.1 (n + 5) (place + 5 * size) (omega arith) (omega arith) in
      let c6 = counted_to c5 (omega arith) e5.1 (n + 6) (place + 6 * size) (omega arith) (omega arith) in
      let c7 = counted_to c6 (omega arith) e6.1 (n + 7) (place + 7 * size) (omega arith) (omega arith) in
      counted_to c7 (omega arith) e7.1 (n + 8) (place + 8 * size) (omega arith) (omega arith)

-- ---- the loop of `eights_at`: `place` is where record n stands

pub record Eights (command size : ℕ) (t : List ℕ) (at n place : ℕ) : Type 0 where
  pub counted : Counted command size t at n place
  pub here : place ≡ at + n * size
  pub inside : place ≤ max at (length t)

pub eights_none : (command size : ℕ) (t : List ℕ) (at : ℕ) → Eights command size t at 0 at
eights_none command size t at = record { counted = counted_none command size t at; here = omega arith; inside = omega arith }

module _ {command size : ℕ} {t : List ℕ} {at n place : ℕ} (c : Eights command size t at n place) where
  pub eights_more : 1 ≤ size → 8 * size < length t - place → eight_at command size t place ≡ true → Eights command size t at (n + 8) (place + 8 * size)
  eights_more z h e = record {
    counted = counted_eight z c.counted (omega (arith, h)) e;
    here = rw add-mul (omega (arith, c.here));
    inside = omega (arith, h);
  }

  pub eights_done : Counted command size t at n (at + n * size) × (at + n * size ≤ max at (length t))
  eights_done = rw (← c.here) (c.counted, c.inside)

-- ---- the loop of `strings_length`

-- the length of the string numbered i of a run
abbrev pub length_at : List ℕ → ℕ → ℕ → ℕ
length_at t at i = word_at t (at + 5 * i + 1)

pub lengths_sum : (t : List ℕ) (at count : ℕ) → sum (records_at string_codec t at count) ≡ sum_to count (length_at t at)
unfolding records_at record_at operands_at string_codec
lengths_sum t at count = sym (sum_tabulate count (length_at t at))

pub lengths_all : (t : List ℕ) (at count room i total : ℕ) → i ≡ count → total ≡ capped room (sum_to i (length_at t at))
    → total ≡ capped room (sum (records_at string_codec t at count))
lengths_all t at count room i total h e = let f = ap (λ (k : ℕ). sum_to k (length_at t at)) h in omega (arith, lengths_sum t at count, e, f)
