-- A test of every field of a body, made word by word: what a loop over the six words with `word_use` computes. The order of
-- the words is not the order in which section 5 grafts the fields.
use Rattle.std.specs.Prelude.{ℕ, zero, suc, ◌+◌, ◌*◌, ◌/◌, ◌%◌, ◌<◌, ◌≤◌, ◌≡◌, Bool, true, cond, ◌&&◌, List, [], ◌∷◌, get_or, ltb}
use Rattle.std.proofs.Common.{arith, le_of_suc-le-suc, eq-or-lt_of_le, ap, ap₂, ◌∙◌, ⊎_elim}
use Rattle.std.proofs.Math.Path.{refl, sym}
use Rattle.std.proofs.Math.Bool.{and-true, and_comm, and_assoc}
use Rattle.std.proofs.Math.ListN.{get_or-eq_default}
use Rattle.std.proofs.Math.Dec.{eqb}
use borrow.Author.Tests.{eq-eqb, ne_eqb, eqb-true, ltb-true, ltb-false}
use Rattle.model.specs.Lists.{all}
use Rattle.model.specs.Tape.{Field, Field.str, Field.opt_str, Field.content_range, Field.seg_range, field_table}
use Rattle.facts.specs.Truth.{both, by_bool}
use Rattle.wire.specs.Loops.{all_up_to, all_at, all_up_to_same}
use Rattle.records.specs.Uses.{use_of, use_in, word_use, variant_of, variant_small, same_fields}

-- the test of the field whose first word is i, by the word's use; other words pass
unfoldable pub word_test : (Field → Bool) → ℕ → ℕ → Bool
word_test g u i =
    cond (eqb u 1) (g (str i)) (cond (eqb u 2) (g (opt_str i)) (cond (eqb u 3) (g (content_range i)) (cond (eqb u 5) (g (seg_range i)) true)))

-- no other field uses the words of a field, which are among the six
unfoldable free : Field → List Field → Bool
free (str p) fs = ltb p 6 && eqb (use_in p fs) 0
free (opt_str p) fs = ltb p 6 && eqb (use_in p fs) 0
free (content_range p) fs = ltb p 6 && eqb (use_in p fs) 0 && eqb (use_in (p + 1) fs) 0
free (seg_range p) fs = ltb p 6 && eqb (use_in p fs) 0 && eqb (use_in (p + 1) fs) 0

unfoldable apart : List Field → Bool
apart [] = true
apart (f ∷ fs) = free f fs && apart fs

-- ---- one index more

one_more_lem : (n : ℕ) (P Q : ℕ → Bool) (j : ℕ) (x : Bool) → j < n → P j ≡ x → Q j ≡ true → ((i : ℕ) → (i ≡ j → ⊥) → P i ≡ Q i) → all_up_to n P ≡ (x && all_up_to n Q)
unfolding all_up_to
one_more_lem zero P Q j x h p q e = absurd (omega arith)
one_more_lem (suc n) P Q j x h p q e =
    ⊎_elim
    (λ (s : j ≡ n).
    let a : all_up_to n P ≡ all_up_to n Q = all_up_to_same n P Q (λ i b. e i (λ t. omega arith)) in
    let b : P n ≡ x = ap P (sym s) ∙ p in
    let d : Q n ≡ true = ap Q (sym s) ∙ q in
    rw (a, b, d, and-true) (and_comm (all_up_to n Q) x))
    (λ (l : j < n).
    let a = one_more_lem n P Q j x l p q e in
    let b = e n (λ t. omega arith) in
    ap₂ (λ (u v : Bool). u && v) a b ∙ and_assoc x (all_up_to n Q) (Q n))
    (eq-or-lt_of_le (le_of_suc-le-suc h))

-- ---- one field more

test_unused : (g : Field → Bool) (u i : ℕ) → u ≡ 0 → word_test g u i ≡ true
unfolding word_test
test_unused g u i e = rw e refl

module _ (g : Field → Bool) (fs : List Field) where
  -- the word's test, with the fields fs
  unfoldable test_in : List Field → ℕ → Bool
  test_in l i = word_test g (use_in i l) i

  test_head : (f : Field) (i u : ℕ) → use_of i f ≡ suc u → test_in (f ∷ fs) i ≡ word_test g (suc u) i
  unfolding test_in use_in
  test_head f i u e = rw (e, ne_eqb (suc u) 0 (λ t. omega arith)) refl

  test_tail : (f : Field) (i : ℕ) → use_of i f ≡ 0 → test_in (f ∷ fs) i ≡ test_in fs i
  unfolding test_in use_in
  test_tail f i e = rw e refl

  test_free : (i : ℕ) → eqb (use_in i fs) 0 ≡ true → test_in fs i ≡ true
  unfolding test_in
  test_free i e = test_unused g (use_in i fs) i (eqb-true (use_in i fs) 0 e)

  field_more : (f : Field) → free f fs ≡ true → all_up_to 6 (test_in (f ∷ fs)) ≡ (g f && all_up_to 6 (test_in fs))
  unfolding free use_of word_test
  field_more (str p) h =
      let s = both (ltb p 6) (eqb (use_in p fs) 0) h in
      one_more_lem 6 (test_in (str p ∷ fs)) (test_in fs) p (g (str p)) (ltb-true p 6 s.0)
      (test_head (str p) p 0 (rw (eq-eqb p p refl) refl)) (test_free p s.1)
      (λ i ne. test_tail (str p) i (rw (ne_eqb i p ne) refl))
  field_more (opt_str p) h =
      let s = both (ltb p 6) (eqb (use_in p fs) 0) h in
      one_more_lem 6 (test_in (opt_str p ∷ fs)) (test_in fs) p (g (opt_str p)) (ltb-true p 6 s.0)
      (test_head (opt_str p) p 1 (rw (eq-eqb p p refl) refl)) (test_free p s.1)
      (λ i ne. test_tail (opt_str p) i (rw (ne_eqb i p ne) refl))
  field_more (content_range p) h =
      let t = both (ltb p 6 && eqb (use_in p fs) 0) (eqb (use_in (p + 1) fs) 0) h in
      let s = both (ltb p 6) (eqb (use_in p fs) 0) t.0 in
      one_more_lem 6 (test_in (content_range p ∷ fs)) (test_in fs) p (g (content_range p)) (ltb-true p 6 s.0)
      (test_head (content_range p) p 2 (rw (eq-eqb p p refl) refl)) (test_free p s.1)
      (λ i ne. by_bool (eqb i (p + 1))
      (λ a. let q : i ≡ p + 1 = eqb-true i (p + 1) a in test_head (content_range p) i 3 (rw (ne_eqb i p ne, a) refl) ∙ sym (test_free i (ap (λ (k : ℕ). eqb (use_in k fs) 0) q ∙ t.1)))
      (λ a. test_tail (content_range p) i (rw (ne_eqb i p ne, a) refl)))
  field_more (seg_range p) h =
      let t = both (ltb p 6 && eqb (use_in p fs) 0) (eqb (use_in (p + 1) fs) 0) h in
      let s = both (ltb p 6) (eqb (use_in p fs) 0) t.0 in
      one_more_lem 6 (test_in (seg_range p ∷ fs)) (test_in fs) p (g (seg_range p)) (ltb-true p 6 s.0)
      (test_head (seg_range p) p 4 (rw (eq-eqb p p refl) refl)) (test_free p s.1)
      (λ i ne. by_bool (eqb i (p + 1))
      (λ a. let q : i ≡ p + 1 = eqb-true i (p + 1) a in test_head (seg_range p) i 5 (rw (ne_eqb i p ne, a) refl) ∙ sym (test_free i (ap (λ (k : ℕ). eqb (use_in k fs) 0) q ∙ t.1)))
      (λ a. test_tail (seg_range p) i (rw (ne_eqb i p ne, a) refl)))

fields_apart : (g : Field → Bool) (fs : List Field) → apart fs ≡ true → all g fs ≡ all_up_to 6 (test_in g [] fs)
unfolding apart test_in all_up_to use_in word_test
fields_apart g [] h = refl
fields_apart g (f ∷ fs) h =
    let s = both (free f fs) (apart fs) h in
    ap (λ (b : Bool). g f && b) (fields_apart g fs s.1) ∙ sym (field_more g fs f s.0)

-- ---- the fields of every kind and tag are apart

unfoldable apart_at : ℕ → Bool
apart_at n = apart (get_or (field_table (n % 4)) (n / 4) [])

table_apart : all_up_to 64 apart_at ≡ true
unfolding all_up_to apart_at apart free use_in use_of field_table
table_apart = refl

none_apart : (k t : ℕ) → 16 ≤ k → apart (get_or (field_table t) k []) ≡ true
unfolding apart field_table
none_apart k t h = ap apart (get_or-eq_default (field_table t) [] h)

kind_apart : (k t : ℕ) → apart (get_or (field_table t) k []) ≡ true
unfolding apart_at
kind_apart k t =
    by_bool (ltb k 16)
    (λ b.
    let h = ltb-true k 16 b in
    let n = 4 * k + variant_of k t in
    let v = variant_small k t in
    let e₁ : n / 4 ≡ k = omega arith in
    let e₂ : n % 4 ≡ variant_of k t = omega arith in
    rw (same_fields k t) (rw (e₁, e₂) at (all_at apart_at 64 n table_apart (omega arith))))
    (λ b. none_apart k t (ltb-false k 16 b))

-- a test of every field of a kind with a tag is the test of each of the six words by its use
pub all_by_words : (g : Field → Bool) (k t : ℕ) → all g (get_or (field_table t) k []) ≡ all_up_to 6 (λ i. word_test g (word_use k t i) i)
unfolding test_in word_use
all_by_words g k t = fields_apart g (get_or (field_table t) k []) (kind_apart k t)
