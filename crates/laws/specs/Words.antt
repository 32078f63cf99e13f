-- Words of a tape: read and written again, written and read again. Section 4.
use Rattle.std.specs.Prelude.{◌≡◌, ℕ, ◌+◌, ◌*◌, ◌/◌, ◌%◌, ◌≤◌, ◌<◌, List, [], ◌∷◌, ◌++◌, length, get_or, drop}
use Rattle.std.proofs.Common.{sym, ap, ◌∙◌, arith, add-zero, drop-drop, get_or-drop, drop_at}
use Rattle.model.specs.Bytes.{AreBytes, byte_at, word_at, word_bytes, part}
use Rattle.facts.specs.Lists.{part_cons}
use Rattle.facts.specs.Words.{word_digits}

-- ---- a word read and written again

part_four : (t : List ℕ) (p : ℕ) → p + 4 ≤ length t
    → part t p 4 ≡ byte_at t p ∷ byte_at t (p + 1) ∷ byte_at t (p + 2) ∷ byte_at t (p + 3) ∷ []
part_four t p h =
    let e₁ : p + 1 + 1 ≡ p + 2 = omega arith in
    let e₂ : p + 2 + 1 ≡ p + 3 = omega arith in
    part_cons t p 3 (omega arith) ∙ ap (λ (l : List ℕ). byte_at t p ∷ l)
    (part_cons t (p + 1) 2 (omega arith) ∙ ap (λ (l : List ℕ). byte_at t (p + 1) ∷ l)
    (ap (λ (k : ℕ). part t k 2) e₁ ∙ part_cons t (p + 2) 1 (omega arith) ∙ ap (λ (l : List ℕ). byte_at t (p + 2) ∷ l)
    (ap (λ (k : ℕ). part t k 1) e₂ ∙ part_cons t (p + 3) 0 (omega arith))))

digits : (a b c d : ℕ) → a < 256 → b < 256 → c < 256 → d < 256
    → word_bytes (a + 256 * b + 65536 * c + 16777216 * d) ≡ a ∷ b ∷ c ∷ d ∷ []
unfolding word_bytes
digits a b c d ha hb hc hd =
    let n = a + 256 * b + 65536 * c + 16777216 * d in
    let q₁ : n / 256 ≡ b + 256 * c + 65536 * d = omega arith in
    let q₂ : n / 65536 ≡ c + 256 * d = omega arith in
    let q₃ : n / 16777216 ≡ d = omega arith in
    let e₀ : n % 256 ≡ a = omega arith in
    let e₁ : (b + 256 * c + 65536 * d) % 256 ≡ b = omega arith in
    let e₂ : (c + 256 * d) % 256 ≡ c = omega arith in
    let e₃ : d % 256 ≡ d = omega arith in
    rw (q₁, q₂, q₃, e₀, e₁, e₂, e₃)

pub word_read : (t : List ℕ) (p : ℕ) → AreBytes t → p + 4 ≤ length t → word_bytes (word_at t p) ≡ part t p 4
unfolding word_at
word_read t p b h =
    digits (byte_at t p) (byte_at t (p + 1)) (byte_at t (p + 2)) (byte_at t (p + 3))
    (b.byte p (omega arith)) (b.byte (p + 1) (omega arith)) (b.byte (p + 2) (omega arith)) (b.byte (p + 3) (omega arith))
    ∙ sym (part_four t p h)

-- ---- what stands at a place

-- from place p on the tape is `l`
abbrev pub Stands : List ℕ → ℕ → List ℕ → Type 0
Stands t p l = drop p t ≡ l

-- behind a first part of known length
pub stands_behind : (t : List ℕ) (p n : ℕ) (a l : List ℕ) → length a ≡ n → Stands t p (a ++ l) → Stands t (p + n) l
stands_behind t p n a l e h = sym (drop-drop n p t) ∙ ap (λ (x : List ℕ). drop n x) h ∙ drop_at a l n e

pub stands_at : (t : List ℕ) (p q : ℕ) (l : List ℕ) → p ≡ q → Stands t p l → Stands t q l
stands_at t p q l e h = ap (λ (k : ℕ). drop k t) (sym e) ∙ h

pub byte_stands : (t : List ℕ) (p : ℕ) (l : List ℕ) → Stands t p l → byte_at t p ≡ byte_at l 0
byte_stands t p l h = ap (λ (k : ℕ). byte_at t k) (sym (add-zero p)) ∙ sym (get_or-drop p t 0 0) ∙ ap (λ (y : List ℕ). byte_at y 0) h

-- ---- a word written and read again

pub word_stands : (t : List ℕ) (p n : ℕ) (l : List ℕ) → n < 4294967296 → Stands t p (word_bytes n ++ l) → word_at t p ≡ n
unfolding word_bytes word_at
word_stands t p n l small h =
    let at : (i : ℕ) → get_or t (p + i) 0 ≡ get_or (word_bytes n ++ l) i 0 = λ i. sym (get_or-drop p t i 0) ∙ ap (λ (y : List ℕ). get_or y i 0) h in
    let e₀ : get_or t p 0 ≡ n % 256 = ap (λ (k : ℕ). get_or t k 0) (sym (add-zero p)) ∙ at 0 in
    let e₁ : get_or t (p + 1) 0 ≡ n / 256 % 256 = at 1 in
    let e₂ : get_or t (p + 2) 0 ≡ n / 65536 % 256 = at 2 in
    let e₃ : get_or t (p + 3) 0 ≡ n / 16777216 % 256 = at 3 in
    rw (e₀, e₁, e₂, e₃) (word_digits n small)
