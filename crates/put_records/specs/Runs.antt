-- Records that stand one behind the other, read and written: one more, a first part, and one run behind another.
use Rattle.std.specs.Prelude.{◌≡◌, refl, true}
use Rattle.std.proofs.Common.{sym, ◌∙◌}
use Rattle.std.proofs.Math.Path.{ap}
use Prim.Native.Nat.{ℕ, zero, suc, ◌+◌, ◌*◌, ◌≤◌}
use native.Mathlib.Omega.{arith}
use mathlib.Core.List.{List, [], ◌∷◌, ◌++◌}
use Rattle.model.specs.Lists.{all, tabulate}
use Rattle.model.specs.Tape.{Codec, record_size, record_at, records_at}
use Rattle.facts.specs.Truth.{both}
use Rattle.facts.specs.Lists.{tabulate_last}
use Rattle.facts.specs.Keep.{all_append_is}

-- a first part of a list
pub record Parts {A : Type 0} (xs whole : List A) : Type 0 where
  pub rest : List A
  pub is : whole ≡ xs ++ rest

pub tabulate_parts : {A : Type 0} (i n : ℕ) (f : ℕ → A) → i ≤ n → Parts (tabulate i f) (tabulate n f)
tabulate_parts zero n f h = record { rest = tabulate n f; is = refl }
tabulate_parts (suc i) zero f h = absurd (omega arith)
tabulate_parts (suc i) (suc n) f h =
    let r = tabulate_parts i n (λ (k : ℕ). f (suc k)) (omega arith) in
    record { rest = r.rest; is = ap (λ (l : List _). f 0 ∷ l) r.is }

pub all_first : {A : Type 0} (p : A → _) {xs whole : List A} → Parts xs whole → all p whole ≡ true → all p xs ≡ true
all_first p {xs} {whole} r h = (both (all p xs) (all p r.rest) (sym (all_append_is p xs r.rest) ∙ sym (ap (all p) r.is) ∙ h)).0

module _ {A : Type 0} (k : Codec A) (t : List ℕ) (at : ℕ) where
  pub records_more : (i : ℕ) → records_at k t at (i + 1) ≡ records_at k t at i ++ (record_at k t (at + record_size k * i) ∷ [])
  unfolding records_at
  records_more i =
      let e : i + 1 ≡ suc i = omega arith in
      ap (λ (n : ℕ). tabulate n (λ (j : ℕ). record_at k t (at + record_size k * j))) e ∙ tabulate_last i (λ (j : ℕ). record_at k t (at + record_size k * j))

  pub records_parts : (i n : ℕ) → i ≤ n → Parts (records_at k t at i) (records_at k t at n)
  unfolding records_at
  records_parts i n h = tabulate_parts i n (λ (j : ℕ). record_at k t (at + record_size k * j)) h
