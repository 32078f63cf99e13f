-- A test of every record of a run, one law for every kind and every test.
use Prim.Native.Nat.{ℕ, suc, ◌+◌, ◌*◌, ◌≤◌, ◌<◌}
use Rattle.std.proofs.Common.{arith, add-zero, mul-suc, ◌∙◌}
use Rattle.std.proofs.Math.Nat.{mul-zero, mul-le-mul_left}
use Rattle.std.specs.Prelude.{◌≡◌, Bool, true, false}
use Rattle.std.proofs.Math.Path.{refl, sym, ap}
use mathlib.Core.List.{List, [], ◌∷◌}
use Rattle.model.specs.Lists.{all, any, tabulate}
use Rattle.model.specs.Tape.{Codec, record_size, record_at, records_at}
use Rattle.wire.specs.Loops.{all_up_to, Passed, passed_more, all_passed, all_failed, all_at, all_tabulate}
use Rattle.wire.specs.Loops.{any_up_to, Missed, missed_more, any_missed, any_found, any_tabulate}

module _ {A : Type 0} (c : Codec A) (p : A → Bool) (t : List ℕ) (at : ℕ) where
  -- the test of the record numbered i of the run from `at` on
  unfoldable pub test_at : ℕ → Bool
  test_at i = p (record_at c t (at + record_size c * i))

  -- a run tested record by record: what a chain over the numbers below n answers (crate wire, proofs/Ranges.antt)
  pub all-records_at : (n : ℕ) → all p (records_at c t at n) ≡ all_up_to n test_at
  unfolding records_at test_at
  all-records_at n = sym (all_tabulate p n (λ (i : ℕ). record_at c t (at + record_size c * i)))

  pub any-records_at : (n : ℕ) → any p (records_at c t at n) ≡ any_up_to n test_at
  unfolding records_at test_at
  any-records_at n = sym (any_tabulate p n (λ (i : ℕ). record_at c t (at + record_size c * i)))

  -- the same by the code's number for the size of a record
  pub run_all : (n size : ℕ) → record_size c ≡ size → all_up_to n (λ (i : ℕ). p (record_at c t (at + size * i))) ≡ all p (records_at c t at n)
  unfolding test_at
  run_all n size e = ap (λ (s : ℕ). all_up_to n (λ (i : ℕ). p (record_at c t (at + s * i)))) (sym e) ∙ sym (all-records_at n)

  pub run_any : (n size : ℕ) → record_size c ≡ size → any_up_to n (λ (i : ℕ). p (record_at c t (at + size * i))) ≡ any p (records_at c t at n)
  unfolding test_at
  run_any n size e = ap (λ (s : ℕ). any_up_to n (λ (i : ℕ). p (record_at c t (at + s * i)))) (sym e) ∙ sym (any-records_at n)

  -- the code's answer r of the record at its place q
  module _ (i q : ℕ) (place : q ≡ at + record_size c * i) (r : Bool) (answer : r ≡ p (record_at c t q)) where
    test_here : test_at i ≡ r
    unfolding test_at
    test_here = sym (answer ∙ ap (λ (k : ℕ). p (record_at c t k)) place)

    pub run_more : r ≡ true → Passed test_at i → Passed test_at (i + 1)
    run_more e passed = passed_more test_at i passed (test_here ∙ e)

    pub run_failed : (n : ℕ) → i < n → r ≡ false → false ≡ all p (records_at c t at n)
    run_failed n h e = sym (all-records_at n ∙ all_failed test_at n i h (test_here ∙ e))

    -- a search for one that passes
    pub run_missed : r ≡ false → Missed test_at i → Missed test_at (i + 1)
    run_missed e missed = missed_more test_at i missed (test_here ∙ e)

    pub run_found : (n : ℕ) → i < n → r ≡ true → true ≡ any p (records_at c t at n)
    run_found n h e = sym (any-records_at n ∙ any_found test_at n i h (test_here ∙ e))

  pub run_nowhere : (n i : ℕ) → i ≡ n → Missed test_at i → false ≡ any p (records_at c t at n)
  run_nowhere n i e missed = sym (ap (λ (k : ℕ). any p (records_at c t at k)) (sym e) ∙ any-records_at i ∙ any_missed test_at i missed)

  pub run_passed : (n i : ℕ) → i ≡ n → Passed test_at i → true ≡ all p (records_at c t at n)
  run_passed n i e passed = sym (ap (λ (k : ℕ). all p (records_at c t at k)) (sym e) ∙ all-records_at i ∙ all_passed test_at i passed)

-- a record of the run lies within it
pub record_within : (size n i : ℕ) → i < n → size * i + size ≤ size * n
record_within size n i h = let m = mul-le-mul_left {m = suc i} {n = n} size h in omega (arith, m, mul-suc size i)

-- ---- a run as a list

module _ {A : Type 0} (c : Codec A) (t : List ℕ) where
  tabulate_next : (n p q : ℕ) → q ≡ p + record_size c
      → tabulate n (λ (i : ℕ). record_at c t (p + record_size c * suc i)) ≡ tabulate n (λ (i : ℕ). record_at c t (q + record_size c * i))
  tabulate_next n p q e = ap (λ (f : ℕ → A). tabulate n f) (λ j i. record_at c t (place i j))
    where
      place : (i : ℕ) → p + record_size c * suc i ≡ q + record_size c * i
      place i = let m : record_size c * suc i ≡ record_size c * i + record_size c = mul-suc (record_size c) i in omega (arith, m, e)

  -- the first record, and the run behind it at the place q that the code has
  pub run_cons : (n p q : ℕ) → q ≡ p + record_size c → records_at c t p (suc n) ≡ (record_at c t p ∷ records_at c t q n)
  unfolding records_at
  run_cons n p q e =
      let z : p + record_size c * 0 ≡ p = rw mul-zero (add-zero p) in
      ap (λ (k : ℕ). record_at c t k ∷ tabulate n (λ (i : ℕ). record_at c t (p + record_size c * suc i))) z
      ∙ ap (λ (l : List A). record_at c t p ∷ l) (tabulate_next n p q e)

  pub run_none : (p : ℕ) → records_at c t p 0 ≡ []
  unfolding records_at
  run_none p = refl

-- what a passed test says of one record
pub run_at : {A : Type 0} (c : Codec A) (p : A → Bool) (t : List ℕ) (at n i : ℕ) → all p (records_at c t at n) ≡ true → i < n → p (record_at c t (at + record_size c * i)) ≡ true
unfolding test_at
run_at c p t at n i e h = all_at (test_at c p t at) n i (sym (all-records_at c p t at n) ∙ e) h

-- and of the first records of a run
pub run_before : {A : Type 0} (c : Codec A) (p : A → Bool) (t : List ℕ) (at n i : ℕ) → all p (records_at c t at n) ≡ true → i ≤ n → all p (records_at c t at i) ≡ true
unfolding test_at
run_before c p t at n i e h = sym (run_passed c p t at i i refl (record { all = λ k j. run_at c p t at n k e (omega arith) }))
