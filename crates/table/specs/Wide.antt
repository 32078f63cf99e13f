-- Numbers of two words, and the starts among the work words. Assumes nothing.
use Rattle.std.specs.Prelude.{◌≡◌, refl, List, [], ◌∷◌, ℕ, zero, suc, ◌+◌, ◌*◌, ◌/◌, ◌%◌, ◌<◌, ◌≤◌, length, drop, set}
use Rattle.std.proofs.Common.{sym, ap, ◌∙◌, arith}
use Rattle.std.proofs.Math.ListN.{get_or, length-set}
use Rattle.std.proofs.Math.Seq.{get_or-set_same, get_or-set_other, drop-set-lt}
use Rattle.table.specs.Layout.{part, wide_at, wide_words, starts_of, start_in, with_start}
use Rattle.table.specs.Views.{length_part, get_d_part, part_high}

-- ---- two words each

pub wide_length : (n : ℕ) (l : List ℕ) → length l ≡ 2 * n → length (wide_words l) ≡ n
unfolding wide_words
wide_length zero [] e = refl
wide_length zero (a ∷ l) e = absurd (omega (arith, e))
wide_length (suc n) [] e = absurd (omega (arith, e))
wide_length (suc n) (a ∷ []) e = absurd (omega (arith, e))
wide_length (suc n) (a ∷ b ∷ l) e = ap suc (wide_length n l (omega (arith, e)))

pub wide_is : (l : List ℕ) (k : ℕ) → k < length (wide_words l) → get_or (wide_words l) k 0 ≡ wide_at l (2 * k)
unfolding wide_words
wide_is [] k h = absurd (omega (arith, h))
wide_is (a ∷ []) k h = absurd (omega (arith, h))
wide_is (a ∷ b ∷ l) zero h = refl
wide_is (a ∷ b ∷ l) (suc k) h =
    let e : 2 * suc k ≡ suc (suc (2 * k)) = omega arith in
    let f : 2 * suc k + 1 ≡ suc (suc (2 * k + 1)) = omega arith in
    wide_is l k (omega (arith, h)) ∙ (λ i. get_or (a ∷ b ∷ l) (sym e i) 0 + 4294967296 * get_or (a ∷ b ∷ l) (sym f i) 0)

-- a number has both of its words
pub wide_inside : (l : List ℕ) (k : ℕ) → k < length (wide_words l) → 2 * k + 1 < length l
unfolding wide_words
wide_inside [] k h = absurd (omega (arith, h))
wide_inside (a ∷ []) k h = absurd (omega (arith, h))
wide_inside (a ∷ b ∷ l) zero h = omega arith
wide_inside (a ∷ b ∷ l) (suc k) h = let x = wide_inside l k (omega (arith, h)) in omega (arith, x)

-- ---- the starts

module _ (work : List ℕ) (count : ℕ) (room : 8192 + 2 * count + 2 ≤ length work) where
  pub starts_number : length (starts_of count work) ≡ count + 1
  starts_number = wide_length (count + 1) (part 8192 (8192 + 2 * count + 2) work) (length_part 8192 (8192 + 2 * count + 2) work (omega arith) room ∙ omega arith)

  pub start_is : (k : ℕ) → k ≤ count → get_or (starts_of count work) k 0 ≡ start_in work k
  start_is k h =
      let l = part 8192 (8192 + 2 * count + 2) work in
      let n = starts_number in
      let e : 8192 + (2 * k + 1) ≡ 8192 + 2 * k + 1 = omega arith in
      wide_is l k (omega (arith, n, h))
      ∙ (λ i. get_d_part 8192 (8192 + 2 * count + 2) work (2 * k) 0 (omega (arith, h)) i + 4294967296 * (get_d_part 8192 (8192 + 2 * count + 2) work (2 * k + 1) 0 (omega (arith, h)) ∙ ap (λ (j : ℕ). get_or work j 0) e) i)

-- ---- a start put among the words

module _ (work : List ℕ) (k v : ℕ) where
  abbrev low : List ℕ
  low = set work (8192 + 2 * k) (v % 4294967296)

  pub length_start : length (with_start work k v) ≡ length work
  unfolding with_start
  length_start = length-set low (8192 + 2 * k + 1) (v / 4294967296) ∙ length-set work (8192 + 2 * k) (v % 4294967296)

  pub start_put : 8192 + 2 * k + 1 < length work → start_in (with_start work k v) k ≡ v
  unfolding with_start
  start_put h =
      let a = get_or-set_other low (8192 + 2 * k + 1) (8192 + 2 * k) (v / 4294967296) 0 (λ e. let z : ⊥ = omega (arith, e) in z) ∙ get_or-set_same work (8192 + 2 * k) (v % 4294967296) 0 (omega (arith, h)) in
      let b = get_or-set_same low (8192 + 2 * k + 1) (v / 4294967296) 0 (omega (arith, h, length-set work (8192 + 2 * k) (v % 4294967296))) in
      omega (arith, a, b)

  pub start_other : (j : ℕ) → (j ≡ k → ⊥) → start_in (with_start work k v) j ≡ start_in work j
  unfolding with_start
  start_other j ne =
      let other : (i : ℕ) → (i ≡ 8192 + 2 * k → ⊥) → (i ≡ 8192 + 2 * k + 1 → ⊥) → get_or (set low (8192 + 2 * k + 1) (v / 4294967296)) i 0 ≡ get_or work i 0
      = λ i x y. get_or-set_other low (8192 + 2 * k + 1) i (v / 4294967296) 0 y ∙ get_or-set_other work (8192 + 2 * k) i (v % 4294967296) 0 x in
      λ i. other (8192 + 2 * j) (λ e. ne (omega (arith, e))) (λ e. let z : ⊥ = omega (arith, e) in z) i
      + 4294967296 * other (8192 + 2 * j + 1) (λ e. let z : ⊥ = omega (arith, e) in z) (λ e. ne (omega (arith, e))) i

  -- what stands before the starts, and behind this one
  pub start_low : (a e : ℕ) → a ≤ e → e ≤ 8192 → part a e (with_start work k v) ≡ part a e work
  unfolding with_start
  start_low a e h l = part_high a e low (8192 + 2 * k + 1) (v / 4294967296) h (omega (arith, l)) ∙ part_high a e work (8192 + 2 * k) (v % 4294967296) h (omega (arith, l))

  pub start_below : (i : ℕ) → i < 8192 → get_or (with_start work k v) i 0 ≡ get_or work i 0
  unfolding with_start
  start_below i h = get_or-set_other low (8192 + 2 * k + 1) i (v / 4294967296) 0 (λ e. omega (arith, e, h)) ∙ get_or-set_other work (8192 + 2 * k) i (v % 4294967296) 0 (λ e. omega (arith, e, h))

  pub start_high : (n : ℕ) → 8192 + 2 * k + 1 < n → drop n (with_start work k v) ≡ drop n work
  unfolding with_start
  start_high n h = drop-set-lt n low (8192 + 2 * k + 1) (v / 4294967296) h ∙ drop-set-lt n work (8192 + 2 * k) (v % 4294967296) (omega (arith, h))
