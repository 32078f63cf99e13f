-- A Bloom filter: which bits of which word a hash sets, that a hash which was inserted is found, and that it stays.
use Rattle.std.specs.Prelude.{◌≡◌, ℕ, ◌+◌, ◌*◌, ◌/◌, ◌%◌, ◌^◌, ◌<◌, min, max, Bool, true, false, cond, ◌&&◌, List, get_or, set, ltb, eqb}
use Rattle.std.proofs.Math.Path.{refl, ap}
use Rattle.std.proofs.Common.{sym, ap₂, ◌∙◌, subst, arith, mod-eq_of_lt, div-lt_iff_lt-mul, mul-lt-mul_of_pos_right, mul-le-mul, mul_comm}
use Rattle.std.proofs.Math.ListN.{length, length-set}
use Rattle.std.proofs.Math.Seq.{get_or-set_same, get_or-set_other}
use Rattle.std.proofs.Math.Arith.{bin_ind}
use Rattle.std.specs.Int.Bits.{bit_and, bit_or, and_step, and_zero_r, or_step}
use Rattle.std.proofs.lemmas.Nat.{or_shr}
use Rattle.std.proofs.Math.Pow.{pow-lt}
use borrow.Author.Tests.{lt-ltb, le-ltb, ltb-true, ltb-false, eq-eqb, eqb-true, eqb-false}
use Rattle.facts.specs.Truth.{both}

-- where 32 bits of a hash have their word: in the share that they have of all 32 bits
unfoldable pub hash_place : ℕ → ℕ → ℕ
hash_place len x = x * min len 4294967296 / 4294967296

-- the bits of a hash, at most four, by its low end
unfoldable pub hash_bits : ℕ → ℕ
hash_bits h = bit_or (bit_or (2 ^ (h % 32)) (2 ^ (h / 32 % 32))) (bit_or (2 ^ (h / 1024 % 32)) (2 ^ (h / 32768 % 32)))

-- are these bits set in the word of x, and the words with them set
unfoldable pub has_bits : List ℕ → ℕ → ℕ → Bool
has_bits words x m = eqb (bit_and (get_or words (hash_place (length words) x) 0) m) m

unfoldable pub with_bits : List ℕ → ℕ → ℕ → List ℕ
with_bits words x m = set words (hash_place (length words) x) (bit_or (get_or words (hash_place (length words) x) 0) m)

-- The two words of a hash are those of its bits 32 to 63 and 16 to 47. Are its bits set in both? Where there are no words, yes.
unfoldable pub may_contain : List ℕ → ℕ → Bool
may_contain words h =
    cond (ltb 0 (length words)) (has_bits words (h / 4294967296 % 4294967296) (hash_bits h) && has_bits words (h / 65536 % 4294967296) (hash_bits h)) true

-- its bits set in both
unfoldable pub inserted : List ℕ → ℕ → List ℕ
inserted words h =
    cond (ltb 0 (length words)) (with_bits (with_bits words (h / 4294967296 % 4294967296) (hash_bits h)) (h / 65536 % 4294967296) (hash_bits h)) words

-- ---- bits

or_half : (a b : ℕ) → bit_or a b / 2 ≡ bit_or (a / 2) (b / 2)
or_half a b = or_shr a b 1

or_last : (a b : ℕ) → bit_or a b % 2 ≡ max (a % 2) (b % 2)
or_last a b = ap (λ (x : ℕ). x % 2) (or_step a b) ∙ last (bit_or (a / 2) (b / 2)) a b
  where
    last : (x p q : ℕ) → (x * 2 + max (p % 2) (q % 2)) % 2 ≡ max (p % 2) (q % 2)
    last x p q = omega arith

-- the digits of `bit_and (bit_or a b) m`, from those of the halves
and_or_digits : (a b m : ℕ) → bit_and (bit_or a b) m ≡ bit_and (bit_or (a / 2) (b / 2)) (m / 2) * 2 + min (max (a % 2) (b % 2)) (m % 2)
and_or_digits a b m =
    and_step (bit_or a b) m ∙ ap₂ (λ (x y : ℕ). bit_and x (m / 2) * 2 + min y (m % 2)) (or_half a b) (or_last a b)

-- bits that were added are there
bits_own : (m a : ℕ) → bit_and (bit_or a m) m ≡ m
bits_own =
    bin_ind (λ (n : ℕ). (a : ℕ) → bit_and (bit_or a n) n ≡ n) (λ a. and_zero_r (bit_or a 0))
    (λ n ih a. and_or_digits a n n ∙ ap (λ (x : ℕ). x * 2 + min (max (a % 2) (n % 2)) (n % 2)) (ih (a / 2)) ∙ digits n a)
  where
    digits : (n a : ℕ) → n / 2 * 2 + min (max (a % 2) (n % 2)) (n % 2) ≡ n
    digits n a = omega arith

-- bits that were there stay
bits_kept : (m a b : ℕ) → bit_and a m ≡ m → bit_and (bit_or a b) m ≡ m
bits_kept =
    bin_ind (λ (n : ℕ). (a b : ℕ) → bit_and a n ≡ n → bit_and (bit_or a b) n ≡ n) (λ a b e. and_zero_r (bit_or a b))
    (λ n ih a b e.
    let d = sym (and_step a n) ∙ e in
    and_or_digits a b n
    ∙ ap (λ (x : ℕ). x * 2 + min (max (a % 2) (b % 2)) (n % 2)) (ih (a / 2) (b / 2) (half (bit_and (a / 2) (n / 2)) a n d)) ∙ digits (bit_and (a / 2) (n / 2)) a b n d)
  where
    half : (x a n : ℕ) → x * 2 + min (a % 2) (n % 2) ≡ n → x ≡ n / 2
    half x a n d = omega arith

    digits : (x a b n : ℕ) → x * 2 + min (a % 2) (n % 2) ≡ n → n / 2 * 2 + min (max (a % 2) (b % 2)) (n % 2) ≡ n
    digits x a b n d = omega arith

-- 2 to the k, as a word has it
pub power_fits : (k : ℕ) → k < 32 → (1 * 2 ^ k) % 2 ^ 32 ≡ 2 ^ k
power_fits k h = let e : 1 * 2 ^ k ≡ 2 ^ k = omega arith in ap (λ (x : ℕ). x % 2 ^ 32) e ∙ mod-eq_of_lt (pow-lt h)

-- ---- places

-- as the code has them
pub share_fits : (n : ℕ) {x y : ℕ} → y ≡ min n 4294967296 → x < 4294967296 → x * y < 2 ^ 64
share_fits n {x} {y} e h = let m = mul-le-mul {n₁ = x} {m₁ = y} {n₂ = 4294967295} {m₂ = 4294967296} (omega (arith, h)) (omega (arith, e)) in omega (arith, m)

share_below : (n x : ℕ) → 0 < n → x < 4294967296 → x * n / 4294967296 < n
share_below n x p h =
    (div-lt_iff_lt-mul {k = 4294967296} {x = x * n} {y = n} (omega arith)).1 (subst (λ (k : ℕ). x * n < k) (mul_comm 4294967296 n) (mul-lt-mul_of_pos_right h p))

pub place_inside : (len x : ℕ) → 0 < len → x < 4294967296 → hash_place len x < len
unfolding hash_place
place_inside len x b h = let s = share_below (min len 4294967296) x (omega (arith, b)) h in omega (arith, s, b)

pub place_at : (len x : ℕ) {y : ℕ} → y ≡ min len 4294967296 → x * y / 4294967296 ≡ hash_place len x
unfolding hash_place
place_at len x e = rw e refl

-- ---- one word

-- a test of two numbers, with what it shows
by_place : {A : Type 0} (i j : ℕ) → (i ≡ j → A) → ((i ≡ j → ⊥) → A) → A
by_place {A} i j same other = go (eqb i j) refl
  where
    go : (b : Bool) → eqb i j ≡ b → A
    go true e = same (eqb-true i j e)
    go false e = other (eqb-false i j e)

module _ (words : List ℕ) (x m : ℕ) where
  abbrev at : ℕ
  at = hash_place (length words) x

  -- as the code has them
  pub with_at : {i : ℕ} → i ≡ at → set words i (bit_or (get_or words i 0) m) ≡ with_bits words x m
  unfolding with_bits
  with_at e = rw e refl

  pub has_at : {i : ℕ} → i ≡ at → eqb (bit_and (get_or words i 0) m) m ≡ has_bits words x m
  unfolding has_bits
  has_at e = rw e refl

  pub with_inside : {a : List ℕ} → a ≡ with_bits words x m → 0 < length words → 0 < length a
  unfolding with_bits
  with_inside e s = let n = ap length e ∙ length-set words at (bit_or (get_or words at 0) m) in omega (arith, n, s)

  with_length : length (with_bits words x m) ≡ length words
  unfolding with_bits
  with_length = length-set words at (bit_or (get_or words at 0) m)

  module _ (some : 0 < length words) (small : x < 4294967296) where
    -- in the same word, and in each other
    same_word : get_or (with_bits words x m) at 0 ≡ bit_or (get_or words at 0) m
    unfolding with_bits
    same_word = get_or-set_same words at (bit_or (get_or words at 0) m) 0 (place_inside (length words) x some small)

    other_word : (j : ℕ) → (j ≡ at → ⊥) → get_or (with_bits words x m) j 0 ≡ get_or words j 0
    unfolding with_bits
    other_word j d = get_or-set_other words at j (bit_or (get_or words at 0) m) 0 d

    -- bits that are set stay
    word_kept : (j k : ℕ) → bit_and (get_or words j 0) k ≡ k → bit_and (get_or (with_bits words x m) j 0) k ≡ k
    word_kept j k e =
        by_place j at
        (λ q.
        ap (λ (i : ℕ). bit_and (get_or (with_bits words x m) i 0) k) q ∙ ap (λ (v : ℕ). bit_and v k) same_word
        ∙ bits_kept k (get_or words at 0) m (ap (λ (i : ℕ). bit_and (get_or words i 0) k) (sym q) ∙ e))
        (λ d. ap (λ (v : ℕ). bit_and v k) (other_word j d) ∙ e)

    with_own : has_bits (with_bits words x m) x m ≡ true
    unfolding has_bits
    with_own =
        eq-eqb (bit_and (get_or (with_bits words x m) (hash_place (length (with_bits words x m)) x) 0) m) m
        (ap (λ (n : ℕ). bit_and (get_or (with_bits words x m) (hash_place n x) 0) m) with_length
        ∙ ap (λ (v : ℕ). bit_and v m) same_word ∙ bits_own m (get_or words at 0))

    with_kept : (y k : ℕ) → has_bits words y k ≡ true → has_bits (with_bits words x m) y k ≡ true
    unfolding has_bits
    with_kept y k e =
        eq-eqb (bit_and (get_or (with_bits words x m) (hash_place (length (with_bits words x m)) y) 0) k) k
        (ap (λ (n : ℕ). bit_and (get_or (with_bits words x m) (hash_place n y) 0) k) with_length
        ∙ word_kept (hash_place (length words) y) k (eqb-true (bit_and (get_or words (hash_place (length words) y) 0) k) k e))

-- ---- both words of a hash

pub half_small : (x : ℕ) → x % 4294967296 < 4294967296
half_small x = omega arith

module _ (words : List ℕ) (h : ℕ) where
  pub inserted_none : length words ≡ 0 → inserted words h ≡ words
  unfolding inserted
  inserted_none n = rw (le-ltb 0 (length words) (omega (arith, n))) refl

  pub found_none : length words ≡ 0 → may_contain words h ≡ true
  unfolding may_contain
  found_none n = rw (le-ltb 0 (length words) (omega (arith, n))) refl

  module _ (some : 0 < length words) where
    inserted_some : inserted words h ≡ with_bits (with_bits words (h / 4294967296 % 4294967296) (hash_bits h)) (h / 65536 % 4294967296) (hash_bits h)
    unfolding inserted
    inserted_some = rw (lt-ltb 0 (length words) some) refl

    -- as the code has them
    pub inserted_both : {m : ℕ} {a b : List ℕ} → m ≡ hash_bits h → a ≡ with_bits words (h / 4294967296 % 4294967296) m
        → b ≡ with_bits a (h / 65536 % 4294967296) m → b ≡ inserted words h
    inserted_both e f g = rw (g, f, e) (sym inserted_some)

    found_some : may_contain words h ≡ (has_bits words (h / 4294967296 % 4294967296) (hash_bits h) && has_bits words (h / 65536 % 4294967296) (hash_bits h))
    unfolding may_contain
    found_some = rw (lt-ltb 0 (length words) some) refl

    pub found_not : {m : ℕ} {x : Bool} → m ≡ hash_bits h → x ≡ has_bits words (h / 4294967296 % 4294967296) m → x ≡ false → false ≡ may_contain words h
    found_not e f g =
        sym (found_some ∙ ap (λ (b : Bool). b && has_bits words (h / 65536 % 4294967296) (hash_bits h))
        (ap (has_bits words (h / 4294967296 % 4294967296)) (sym e) ∙ sym f ∙ g))

    pub found_both : {m : ℕ} {x y : Bool} → m ≡ hash_bits h → x ≡ has_bits words (h / 4294967296 % 4294967296) m → x ≡ true
        → y ≡ has_bits words (h / 65536 % 4294967296) m → y ≡ may_contain words h
    found_both e f g k =
        k ∙ ap (has_bits words (h / 65536 % 4294967296)) e
        ∙ sym (found_some ∙ ap (λ (b : Bool). b && has_bits words (h / 65536 % 4294967296) (hash_bits h))
        (ap (has_bits words (h / 4294967296 % 4294967296)) (sym e) ∙ sym f ∙ g))

by_words : {A : Type 0} (words : List ℕ) → (length words ≡ 0 → A) → (0 < length words → A) → A
by_words {A} words none some = go (ltb 0 (length words)) refl
  where
    go : (b : Bool) → ltb 0 (length words) ≡ b → A
    go true e = some (ltb-true 0 (length words) e)
    go false e = none (let n = ltb-false 0 (length words) e in omega (arith, n))

module _ (words : List ℕ) (h : ℕ) where
  abbrev high : ℕ
  high = h / 4294967296 % 4294967296

  abbrev low : ℕ
  low = h / 65536 % 4294967296

  abbrev once : List ℕ
  once = with_bits words high (hash_bits h)

  once_length : length once ≡ length words
  once_length = with_length words high (hash_bits h)

  once_some : 0 < length words → 0 < length once
  once_some = with_inside words high (hash_bits h) refl

  -- ---- the length stays

  pub inserted_length : length (inserted words h) ≡ length words
  inserted_length =
      by_words words
      (λ n. ap length (inserted_none words h n))
      (λ s. ap length (inserted_some words h s) ∙ with_length once low (hash_bits h) ∙ once_length)

  -- ---- and is found

  none_after : (k : ℕ) → length words ≡ 0 → may_contain (inserted words h) k ≡ true
  none_after k n = let l = inserted_length in found_none (inserted words h) k (omega (arith, l, n))

  module _ (some : 0 < length words) where
    found_after : (k : ℕ) → has_bits (inserted words h) (k / 4294967296 % 4294967296) (hash_bits k) ≡ true
        → has_bits (inserted words h) (k / 65536 % 4294967296) (hash_bits k) ≡ true → may_contain (inserted words h) k ≡ true
    found_after k e f = let l = inserted_length in found_some (inserted words h) k (omega (arith, l, some)) ∙ ap₂ (λ (a b : Bool). a && b) e f

    bits_after : (y k : ℕ) → has_bits once y k ≡ true → has_bits (inserted words h) y k ≡ true
    bits_after y k e =
        ap (λ (l : List ℕ). has_bits l y k) (inserted_some words h some)
        ∙ with_kept once low (hash_bits h) (once_some some) (half_small (h / 65536)) y k e

    own_after : may_contain (inserted words h) h ≡ true
    own_after =
        found_after h (bits_after high (hash_bits h) (with_own words high (hash_bits h) some (half_small (h / 4294967296))))
        (ap (λ (l : List ℕ). has_bits l low (hash_bits h)) (inserted_some words h some)
        ∙ with_own once low (hash_bits h) (once_some some) (half_small (h / 65536)))

    kept_after : (k : ℕ) → may_contain words k ≡ true → may_contain (inserted words h) k ≡ true
    kept_after k e =
        let b = both (has_bits words (k / 4294967296 % 4294967296) (hash_bits k)) (has_bits words (k / 65536 % 4294967296) (hash_bits k)) (sym (found_some words k some) ∙ e) in
        let again = with_kept words high (hash_bits h) some (half_small (h / 4294967296)) in
        found_after k (bits_after (k / 4294967296 % 4294967296) (hash_bits k) (again (k / 4294967296 % 4294967296) (hash_bits k) b.0))
        (bits_after (k / 65536 % 4294967296) (hash_bits k) (again (k / 65536 % 4294967296) (hash_bits k) b.1))

  pub inserted_own : may_contain (inserted words h) h ≡ true
  inserted_own = by_words words (none_after h) own_after

  pub inserted_kept : (k : ℕ) → may_contain words k ≡ true → may_contain (inserted words h) k ≡ true
  inserted_kept k e = by_words words (none_after k) (λ s. kept_after s k e)
