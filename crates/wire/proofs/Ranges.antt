-- A chain over the numbers below n, `(0..n).all(..)` or `(0..n).any(..)`: its answer in the words of specs/Loops.antt, given what the closure answers of
-- each number. A caller's answer is one line, as
--     returns c = range_all _ _ _ _ P refl (λ x b q k. search (rules, tests)) _ c.all.ensures.ran
use Rattle.std.proofs.Common.{◌≡◌, ℕ, ◌<◌, List, length, get_or, Bool, true, false, Option, sym, ap, ◌∙◌, arith}
use Rattle.std.specs.Prelude.{MatchOption}
use denote.Param.Members.{Mut}
use Rattle.std.specs.declared.ops.Range.{Range}
use Rattle.std.specs.Iterator.{YieldsThen}
use Rattle.std.specs.List.{FoldsTo, range_with_len, AllWithin, HoldsAt}
use Rattle.std.specs.Fn.{Called}
use Rattle.std.specs.Bool.{MatchBool}
use Rattle.std.proofs.iter.Yields.{nat_range_steps}
use Rattle.std.proofs.lemmas.Iterator.{cases_from_all, cases_from_any, YieldsList-from_range}
use Rattle.std.proofs.lemmas.List.FromFn.{length-range_with_len, get_or-range_with_len}
use Rattle.wire.specs.Loops.{all_up_to, any_up_to, all_passed, all_failed, any_missed, any_found}

module _ {F : Type 0} {g : Mut F (ℕ × Unit {0}) Bool} (s u : Range ℕ) (f : F) (n : ℕ) (P : ℕ → Bool) (is : s ≡ record { start = 0; end = n })
    (gives : (x : ℕ) (b : Bool) (q : F) → Called g f (x, tt) b q → (q ≡ f) × (b ≡ P x)) where
  abbrev numbers : List ℕ
  numbers = range_with_len 0 n

  long : length numbers ≡ n
  long = length-range_with_len 0 n

  at_number : (b : Bool) (k : ℕ) → k < n → P (get_or numbers k 0) ≡ b → P k ≡ b
  at_number b k h e =
      let at : k ≡ get_or numbers k 0 = omega (arith, get_or-range_with_len 0 n k 0 h) in
      ap P at ∙ e

  pub range_all : (r : Bool)
      → (xs : List ℕ) × (o : Option ℕ) × (j : F) × YieldsThen nat_range_steps s xs o u × FoldsTo (λ p x q. Called g p (x, tt) true q) f xs j
      × MatchOption o (r ≡ true) (λ x. (r ≡ false) × ((h : F) × Called g j (x, tt) false h))
      → r ≡ all_up_to n P
  range_all r ran = by r (cases_from_all u f r (λ x. P x ≡ true) (λ x. P x ≡ false) ran (YieldsList-from_range 0 n n is (omega arith))
      (λ x q k. ((gives x true q k).0, sym (gives x true q k).1)) (λ x q k. sym (gives x false q k).1))
    where
      by : (b : Bool) → MatchBool b (AllWithin (λ x. P x ≡ true) numbers 0 (length numbers)) ((k : ℕ) × (k < length numbers) × HoldsAt (λ x. P x ≡ false) numbers k) → b ≡ all_up_to n P
      by true h = sym (all_passed P n (record { all = λ k l. at_number true k l (h k 0 (omega arith) (omega (arith, long))) }))
      by false (k, l, h) = sym (all_failed P n k (omega (arith, long)) (at_number false k (omega (arith, long)) (h 0)))

  pub range_any : (r : Bool)
      → (xs : List ℕ) × (o : Option ℕ) × (j : F) × YieldsThen nat_range_steps s xs o u × FoldsTo (λ p x q. Called g p (x, tt) false q) f xs j
      × MatchOption o (r ≡ false) (λ x. (r ≡ true) × ((h : F) × Called g j (x, tt) true h))
      → r ≡ any_up_to n P
  range_any r ran = by r (cases_from_any u f r (λ x. P x ≡ true) (λ x. P x ≡ false) ran (YieldsList-from_range 0 n n is (omega arith))
      (λ x q k. sym (gives x true q k).1) (λ x q k. ((gives x false q k).0, sym (gives x false q k).1)))
    where
      by : (b : Bool) → MatchBool b ((k : ℕ) × (k < length numbers) × HoldsAt (λ x. P x ≡ true) numbers k) (AllWithin (λ x. P x ≡ false) numbers 0 (length numbers)) → b ≡ any_up_to n P
      by true (k, l, h) = sym (any_found P n k (omega (arith, long)) (at_number true k (omega (arith, long)) (h 0)))
      by false h = sym (any_missed P n (record { none = λ k l. at_number false k l (h k 0 (omega arith) (omega (arith, long))) }))
