-- The digits that `io::decimal` puts are those of the model's `decimal`.
use Rattle.std.specs.Prelude.{◌≡◌, refl, ℕ, zero, suc, ◌+◌, ◌-◌, ◌/◌, ◌%◌, ◌^◌, ◌≤◌, ◌<◌, List, [], ◌∷◌, ◌++◌, leb}
use Rattle.std.proofs.Common.{sym, ap, ◌∙◌, arith, pow-suc, append_assoc, append-nil, lt-ltb, le-ltb, leb-true, leb-false}
use Rattle.model.specs.Runs.{digits_before, decimal}
use Rattle.io.specs.Digits.{last_digits, hex_digit_ascii, IsDigitCount}
use Rattle.facts.specs.Truth.{by_bool}

glyph_is : (x : ℕ) → hex_digit_ascii (x % 10) ≡ 48 + x % 10
glyph_is x = rw (lt-ltb (x % 10) 10 (omega arith)) refl

ten_more : (k : ℕ) → k < 10 ^ k
ten_more zero = omega arith
ten_more (suc k) = let p = pow-suc 10 k in let h = ten_more k in omega (arith, p, h)

-- more than one digit
most : (k x : ℕ) → IsDigitCount 10 1 x (suc (suc k)) → 10 ^ suc k ≤ x
most k x f = let e : suc (suc k) - 1 ≡ suc k = omega arith in rw e at (f.2 (omega arith))

-- k digits, the fewest, in front of what stands behind; `n` is turns enough
before_digits : (k n x : ℕ) (behind : List ℕ) → k ≤ n → IsDigitCount 10 1 x k → digits_before n x behind ≡ last_digits 10 k x ++ behind
unfolding digits_before
before_digits zero n x behind h f = absurd (omega (arith, f.0))
before_digits (suc zero) zero x behind h f = absurd (omega (arith, h))
before_digits (suc zero) (suc n) x behind h f =
    let p = pow-suc 10 0 in
    rw (lt-ltb x 10 (omega (arith, f.1, p)), glyph_is x) refl
before_digits (suc (suc k)) zero x behind h f = absurd (omega (arith, h))
before_digits (suc (suc k)) (suc n) x behind h f =
    let p = pow-suc 10 (suc k) in
    let q = pow-suc 10 k in
    let m = ten_more k in
    let l = most k x f in
    let again : IsDigitCount 10 1 (x / 10) (suc k) = (omega arith, omega (arith, f.1, p), λ j. let e : suc k - 1 ≡ k = omega arith in rw e (omega (arith, l, q))) in
    rw (le-ltb x 10 (omega (arith, l, q, m)))
    (before_digits (suc k) n (x / 10) ((48 + x % 10) ∷ behind) (omega (arith, h)) again
    ∙ ap (λ (c : ℕ). last_digits 10 (suc k) (x / 10) ++ (c ∷ behind)) (sym (glyph_is x))
    ∙ sym (append_assoc (last_digits 10 (suc k) (x / 10)) (hex_digit_ascii (x % 10) ∷ []) behind))

pub decimal_digits : (k x : ℕ) → IsDigitCount 10 1 x k → last_digits 10 k x ≡ decimal x
unfolding decimal
decimal_digits zero x f = absurd (omega (arith, f.0))
decimal_digits (suc zero) x f = sym (before_digits 1 (suc x) x [] (omega arith) f ∙ append-nil (last_digits 10 1 x))
decimal_digits (suc (suc k)) x f =
    let m = ten_more (suc k) in
    let l = most k x f in
    sym (before_digits (suc (suc k)) (suc x) x [] (omega (arith, l, m)) f ∙ append-nil (last_digits 10 (suc (suc k)) x))

-- A u64 has at most 20 digits.
grows : (j : ℕ) → 100000000000000000000 ≤ 10 ^ (20 + j)
grows zero = omega arith
grows (suc j) =
    let e : 20 + suc j ≡ suc (20 + j) = omega arith in
    let p = pow-suc 10 (20 + j) in
    let h = grows j in
    rw e (omega (arith, p, h))

pub digits_few : (k x : ℕ) → IsDigitCount 10 1 x k → x < 2 ^ 64 → k ≤ 20
digits_few k x f h =
    by_bool (leb k 20)
    (λ a. leb-true k 20 a)
    (λ a.
    let n = leb-false k 20 a in
    let e : k - 1 ≡ 20 + (k - 21) = omega (arith, n) in
    let l = rw e at (f.2 (omega (arith, n))) in
    let g = grows (k - 21) in
    absurd (omega (arith, h, l, g)))
