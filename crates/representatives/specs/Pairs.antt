-- Pairs in words, an id and the id of an equal string plus 1: what they say, and how one is written.
use Rattle.std.specs.Prelude.{◌≡◌, ℕ, ◌+◌, ◌-◌, ◌*◌, ◌/◌, ◌≤◌, ◌<◌, min, Bool, List, [], length, get_or, set, replicate, eqb}
use Rattle.std.proofs.Common.{sym, ap, ◌∙◌, arith, length-set, get_or-set_same, get_or-set_other, eqb-true}
use Rattle.std.proofs.lemmas.List.{length-replicate, get_or-replicate}
use Rattle.std.proofs.lemmas.Bool.{eqb-false}
use Rattle.facts.specs.Truth.{by_bool}
use Rattle.strings.specs.declared.lent.Strings.{Strings}
use Rattle.strings.specs.Lent.{string_in}
use Rattle.sorted_ids.specs.Row.{Sorted, Inserted}

-- What words say of strings that K shows by their ids: a pair whose second word is not 0 has the id of an equal string there, plus 1.
pub record Pairs (K : ℕ → List ℕ) (words : List ℕ) : Type 0 where
  pub equal : (j : ℕ) → 2 * j + 2 < length words → (get_or words (2 * j + 2) 0 ≡ 0 → ⊥) → K (get_or words (2 * j + 1) 0) ≡ K (get_or words (2 * j + 2) 0 - 1)

-- how many pairs the words have, and have room for
abbrev pub pairs_in : List ℕ → ℕ
pairs_in words = min (get_or words 0 0) ((length words - 1) / 2)

pub pairs_none : (K : ℕ → List ℕ) → Pairs K []
pairs_none K = record { equal = λ j h d. absurd (omega (arith, h)) }

pub pairs_zeros : (K : ℕ → List ℕ) (n : ℕ) → Pairs K (replicate n 0)
pairs_zeros K n = record {
  equal = λ j h d. let z : ℕ = 0 in absurd (d (get_or-replicate n (2 * j + 2) 0 0 (omega (arith, h, length-replicate n z))));
}

-- what a pair says that was found
pub pair_found : {K : ℕ → List ℕ} {words : List ℕ} → Pairs K words → (j id : ℕ) → 2 * j + 2 < length words → get_or words (2 * j + 1) 0 ≡ id
    → (get_or words (2 * j + 2) 0 ≡ 0 → ⊥) → K (get_or words (2 * j + 2) 0 - 1) ≡ K id
pair_found {K} p j id h e d = sym (p.equal j h d) ∙ ap K e

-- ---- one pair more, the n-th

abbrev pub pair_put : List ℕ → ℕ → ℕ → ℕ → List ℕ
pair_put words n id representative = set (set (set words 0 (n + 1)) (2 * n + 1) id) (2 * n + 2) (representative + 1)

module _ (words : List ℕ) (n id representative : ℕ) (h : 2 * n + 2 < length words) where
  put_length : length (pair_put words n id representative) ≡ length words
  put_length = simp length-set

  pub put_other : (k : ℕ) → (k ≡ 0 → ⊥) → (k ≡ 2 * n + 1 → ⊥) → (k ≡ 2 * n + 2 → ⊥) → get_or (pair_put words n id representative) k 0 ≡ get_or words k 0
  put_other k a b c =
      get_or-set_other (set (set words 0 (n + 1)) (2 * n + 1) id) (2 * n + 2) k (representative + 1) 0 c
      ∙ get_or-set_other (set words 0 (n + 1)) (2 * n + 1) k id 0 b
      ∙ get_or-set_other words 0 k (n + 1) 0 a

  pub put_count : get_or (pair_put words n id representative) 0 0 ≡ n + 1
  put_count =
      get_or-set_other (set (set words 0 (n + 1)) (2 * n + 1) id) (2 * n + 2) 0 (representative + 1) 0 (λ e. omega (arith, e))
      ∙ get_or-set_other (set words 0 (n + 1)) (2 * n + 1) 0 id 0 (λ e. omega (arith, e))
      ∙ get_or-set_same words 0 (n + 1) 0 (omega (arith, h))

  pub put_first : get_or (pair_put words n id representative) (2 * n + 1) 0 ≡ id
  put_first =
      let l = length-set words 0 (n + 1) in
      get_or-set_other (set (set words 0 (n + 1)) (2 * n + 1) id) (2 * n + 2) (2 * n + 1) (representative + 1) 0 (λ e. omega (arith, e))
      ∙ get_or-set_same (set words 0 (n + 1)) (2 * n + 1) id 0 (omega (arith, l, h))

  put_second : get_or (pair_put words n id representative) (2 * n + 2) 0 ≡ representative + 1
  put_second =
      let l = length-set words 0 (n + 1) in
      let m = length-set (set words 0 (n + 1)) (2 * n + 1) id in
      get_or-set_same (set (set words 0 (n + 1)) (2 * n + 1) id) (2 * n + 2) (representative + 1) 0 (omega (arith, l, m, h))

  pub pairs_put : {K : ℕ → List ℕ} → Pairs K words → K id ≡ K representative → {after : List ℕ} → after ≡ pair_put words n id representative → Pairs K after
  pairs_put {K} p e q = rw q (record { equal = λ j g d. at j g d })
    where
      at : (j : ℕ) → 2 * j + 2 < length (pair_put words n id representative) → (get_or (pair_put words n id representative) (2 * j + 2) 0 ≡ 0 → ⊥)
          → K (get_or (pair_put words n id representative) (2 * j + 1) 0) ≡ K (get_or (pair_put words n id representative) (2 * j + 2) 0 - 1)
      at j g d =
          by_bool (eqb j n)
          (λ t.
          let z = eqb-true j n t in
          let x = ap (λ (i : ℕ). get_or (pair_put words n id representative) (2 * i + 1) 0) z ∙ put_first in
          let y = ap (λ (i : ℕ). get_or (pair_put words n id representative) (2 * i + 2) 0) z ∙ put_second in
          let w : representative ≡ get_or (pair_put words n id representative) (2 * j + 2) 0 - 1 = omega (arith, y) in
          ap K x ∙ e ∙ ap K w)
          (λ f.
          let u = eqb-false j n f in
          let x = put_other (2 * j + 1) (λ z. omega (arith, z)) (λ z. u (omega (arith, z))) (λ z. omega (arith, z)) in
          let y = put_other (2 * j + 2) (λ z. omega (arith, z)) (λ z. omega (arith, z)) (λ z. u (omega (arith, z))) in
          ap K x ∙ p.equal j (omega (arith, g, put_length)) (λ z. d (y ∙ z)) ∙ ap (λ (i : ℕ). K (i - 1)) (sym y))

-- ---- the walk over the strings

-- After at most n strings: the words have pairs, and a row has m of the strings.
pub record Paired (ss : Strings) (row : List ℕ) (m n : ℕ) (words : List ℕ) : Type 0 where
  pub pairs : Pairs (string_in ss) words
  pub rising : Sorted ss row m
  pub few : m ≤ n

module _ {ss : Strings} {row : List ℕ} where
  pub paired_none : {words : List ℕ} → Pairs (string_in ss) words → Paired ss row 0 0 words
  paired_none p = record {
    pairs = p;
    rising = record { room = omega arith; inside = λ j g. absurd (omega (arith, g)); rising = λ i j g h. absurd (omega (arith, h)) };
    few = omega arith;
  }

  module _ {m : ℕ} {words : List ℕ} (p : Pairs (string_in ss) words) where
    -- the row has the string
    pub paired_known : Sorted ss row m → Paired ss row m (m + 1) words
    paired_known r = record { pairs = p; rising = r; few = omega arith }

    -- it is put in
    pub paired_new : {P : List ℕ → Bool} {after : List ℕ} {n : ℕ} → Inserted ss P row m after n → Paired ss after n (m + 1) words
    paired_new i = record { pairs = p; rising = i.row; few = i.few }

pub paired_next : {ss : Strings} {m n : ℕ} → m ≤ n → {after : List ℕ} {k : ℕ} {rest : List ℕ} → Paired ss after k (m + 1) rest → Paired ss after k (n + 1) rest
paired_next l b = record { pairs = b.pairs; rising = b.rising; few = omega (arith, l, b.few) }
