-- The code's uses follow the rule of model's table of fields: computed for each kind and tag.
use Rattle.std.specs.Prelude.{ℕ, suc, zero, ◌+◌, ◌*◌, ◌/◌, ◌%◌, ◌<◌, ◌≤◌, ◌≡◌, Bool, not, ◌&&◌, ◌||◌, List, [], length, get_or, ltb, eqb}
use native.Mathlib.Omega.{arith}
use Rattle.std.proofs.Math.Path.{refl}
use Rattle.std.proofs.Common.{sym, ap, ◌∙◌, ltb-true, ltb-false, eqb-true, ne_eqb}
use Rattle.std.proofs.Math.Bool.{true, false, cond, or-true, or-false}
use Rattle.std.proofs.Math.ListN.{get_or-eq_default}
use Rattle.model.specs.Lists.{any}
use Rattle.model.specs.Tape.{field_table, uses_word, unused_zero}
use Rattle.facts.specs.Truth.{both, by_bool}
use Rattle.wire.specs.Loops.{all_up_to, all_at, all_up_to_same}
use Rattle.records.specs.declared.Use.{Use}
use Rattle.records.specs.Uses.{use_of, use_in, fields_for, word_use, word_fits, words_all, format_uses, gaiji_uses, image_uses, other_uses, uses_of, use_among, variant_of, few, variant_small, same_use, uses_word_lem, use_fits}

-- word i of kind n / 4 with tag n % 4, and that the words behind an unused one are unused
unfoldable uses_at : ℕ → ℕ → Bool
uses_at n i =
    eqb (use_among (uses_of (n / 4) (n % 4)) i) (word_use (n / 4) (n % 4) i)
    && (not (eqb (word_use (n / 4) (n % 4) i) 0) || eqb (word_use (n / 4) (n % 4) (i + 1)) 0)

unfoldable row_right : ℕ → Bool
row_right n = all_up_to 6 (uses_at n)

-- all of them
rows_right : all_up_to 64 row_right ≡ true
unfolding row_right uses_at all_up_to word_use use_in use_of field_table uses_of format_uses gaiji_uses image_uses other_uses
rows_right = refl

same_uses : (k t : ℕ) → uses_of k t ≡ uses_of k (variant_of k t)
unfolding uses_of variant_of format_uses gaiji_uses image_uses
same_uses k t =
    by_bool (eqb k 2) (λ e. let m : t % 4 % 4 ≡ t % 4 = omega arith in rw (e, m) refl)
    (λ e. rw (e, few t 1 (omega arith), few t 2 (omega arith)) refl)

module _ (k t : ℕ) (h : k < 16) (i : ℕ) (b : i < 6) where
  row_parts : (use_among (uses_of k t) i ≡ word_use k t i) × ((not (eqb (word_use k t i) 0) || eqb (word_use k t (i + 1)) 0) ≡ true)
  unfolding row_right uses_at
  row_parts =
      let n = 4 * k + variant_of k t in
      let v = variant_small k t in
      let e₁ : n / 4 ≡ k = omega arith in
      let e₂ : n % 4 ≡ variant_of k t = omega arith in
      let a = all_at (uses_at n) 6 i (all_at row_right 64 n rows_right (omega arith)) b in
      let p = rw (e₁, e₂, ← same_uses k t, ← same_use k t i, ← same_use k t (i + 1)) at a in
      let q = both _ _ p in
      (eqb-true _ _ q.0, q.1)

-- a kind that is none has no fields
pub use_none : (k t i : ℕ) → 16 ≤ k → word_use k t i ≡ 0
unfolding word_use use_in field_table
use_none k t i h = ap (use_in i) (get_or-eq_default (field_table t) [] h)

uses_none : (k t : ℕ) → 16 ≤ k → uses_of k t ≡ other_uses 16
unfolding uses_of other_uses
uses_none k t h =
    rw (
      ne_eqb k 2 (λ e. omega arith),
      ne_eqb k 3 (λ e. omega arith),
      ne_eqb k 11 (λ e. omega arith),
      ne_eqb k 0 (λ e. omega arith),
      ne_eqb k 1 (λ e. omega arith),
      ne_eqb k 9 (λ e. omega arith),
      ne_eqb k 10 (λ e. omega arith),
      ne_eqb k 12 (λ e. omega arith),
      ne_eqb k 13 (λ e. omega arith),
      ne_eqb k 14 (λ e. omega arith),
      ne_eqb k 15 (λ e. omega arith),
    ) refl

none_used : (i : ℕ) → use_among (other_uses 16) i ≡ 0
unfolding other_uses
none_used zero = refl
none_used (suc zero) = refl
none_used (suc (suc zero)) = refl
none_used (suc (suc (suc zero))) = refl
none_used (suc (suc (suc (suc zero)))) = refl
none_used (suc (suc (suc (suc (suc zero))))) = refl
none_used (suc (suc (suc (suc (suc (suc i)))))) = refl

-- the code has the use of each word
pub uses_right : (k t i : ℕ) → i < 6 → use_among (uses_of k t) i ≡ word_use k t i
uses_right k t i b =
    by_bool (ltb k 16) (λ e. (row_parts k t (ltb-true k 16 e) i b).0)
    (λ e. let h = ltb-false k 16 e in rw (uses_none k t h, use_none k t i h) (none_used i))

-- the words behind an unused one are unused
unused_next : (k t i : ℕ) → i < 6 → word_use k t i ≡ 0 → word_use k t (i + 1) ≡ 0
unused_next k t i b e =
    by_bool (ltb k 16)
    (λ s. eqb-true (word_use k t (i + 1)) 0 (rw e at (row_parts k t (ltb-true k 16 s) i b).1))
    (λ s. use_none k t (i + 1) (ltb-false k 16 s))

pub unused_from : (k t i d : ℕ) → i + d ≤ 6 → word_use k t i ≡ 0 → word_use k t (i + d) ≡ 0
unused_from k t i zero b e = ap (word_use k t) (let z : i + 0 ≡ i = omega arith in z) ∙ e
unused_from k t i (suc d) b e =
    ap (word_use k t) (let z : i + suc d ≡ i + d + 1 = omega arith in z) ∙ unused_next k t (i + d) (omega arith) (unused_from k t i d (omega arith) e)

module _ (used : Bool) (k t i w : ℕ) (h : i < 6) where
  fits_same : use_fits used (use_among (uses_of k t) i) w ≡ word_fits (fields_for used k t) i w
  unfolding use_fits word_fits fields_for word_use
  fits_same = by_bool (eqb w 0) (λ e. rw (e, or-true) refl) (λ e. rw (e, or-false) (by_used used))
    where
      by_used : (x : Bool) → cond x (not (eqb (use_among (uses_of k t) i) 0)) false ≡ any (uses_word i) (cond x (get_or (field_table t) k []) [])
      by_used true = rw (uses_right k t i h) (sym (uses_word_lem i (get_or (field_table t) k [])))
      by_used false = refl

-- the six words of a body, by the code's uses; whether it has words is asked at each
pub words_fit_all : (used : Bool) (k t : ℕ) (ws : List ℕ) → length ws ≡ 6
    → all_up_to 6 (λ (i : ℕ). use_fits used (use_among (uses_of k t) i) (get_or ws i 0)) ≡ unused_zero (fields_for used k t) 0 ws
words_fit_all used k t ws six =
    let fs = fields_for used k t in
    all_up_to_same 6 (λ (i : ℕ). use_fits used (use_among (uses_of k t) i) (get_or ws i 0)) (λ (i : ℕ). word_fits fs i (get_or ws i 0)) (λ i h. fits_same used k t i (get_or ws i 0) h)
    ∙ ap (λ (n : ℕ). all_up_to n (λ (i : ℕ). word_fits fs i (get_or ws i 0))) (sym six)
    ∙ words_all fs ws

-- the uses of a body of which it is told whether it has words
unfoldable pub uses_for : Bool → ℕ → ℕ → List Use
uses_for used k t = cond used (uses_of k t) (other_uses 16)

module _ (used : Bool) (k t : ℕ) (us : List Use) where
  pub uses_told : used ≡ true → us ≡ uses_of k t → us ≡ uses_for used k t
  unfolding uses_for
  uses_told e h = rw e h

  pub uses_not_told : used ≡ false → us ≡ other_uses 16 → us ≡ uses_for used k t
  unfolding uses_for
  uses_not_told e h = rw e h

module _ (used : Bool) (k t i w : ℕ) where
  -- a body without words is tested as one whose six are unused
  told_same : use_fits true (use_among (uses_for used k t) i) w ≡ use_fits used (use_among (uses_of k t) i) w
  unfolding use_fits uses_for
  told_same = by_told used
    where
      by_told : (x : Bool) → use_fits true (use_among (cond x (uses_of k t) (other_uses 16)) i) w ≡ use_fits x (use_among (uses_of k t) i) w
      by_told true = refl
      by_told false = rw (none_used i) refl

  fits_told : i < 6 → use_fits true (use_among (uses_for used k t) i) w ≡ word_fits (fields_for used k t) i w
  fits_told h = told_same ∙ fits_same used k t i w h

-- the same, asked once, before the six
pub words_fit_for : (used : Bool) (k t : ℕ) (ws : List ℕ) → length ws ≡ 6 → (us : List Use) → us ≡ uses_for used k t
    → all_up_to 6 (λ (i : ℕ). use_fits true (use_among us i) (get_or ws i 0)) ≡ unused_zero (fields_for used k t) 0 ws
words_fit_for used k t ws six us e =
    let fits = λ (l : List Use) (i : ℕ). use_fits true (use_among l i) (get_or ws i 0) in
    ap (λ (l : List Use). all_up_to 6 (fits l)) e
    ∙ all_up_to_same 6 (fits (uses_for used k t)) (λ (i : ℕ). use_fits used (use_among (uses_of k t) i) (get_or ws i 0)) (λ i h. told_same used k t i (get_or ws i 0))
    ∙ words_fit_all used k t ws six
