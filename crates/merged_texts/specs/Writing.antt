-- Writes one behind the other: a text with a part replaced, and what is written over an earlier write.
use Rattle.std.specs.Prelude.{◌≡◌, ℕ, ◌+◌, ◌-◌, ◌≤◌, List, [], ◌∷◌, ◌++◌, length, take, drop}
use Rattle.std.proofs.Common.{ap, ◌∙◌, arith, append_assoc, length-append, length-drop, length-take-le, take_all}
use Rattle.std.proofs.Math.Nat.{sub-zero}
use Rattle.model.specs.Bytes.{word_bytes}
use Rattle.facts.specs.Words.{word_length}
use Rattle.laws.specs.Parts.{head_bytes}
use Rattle.laws.specs.Splice.{splice, splice_length}
use Rattle.wire.specs.Overwrite.{overwrite, Wrote, wrote_next}

pub spliced_length : (start end : ℕ) (new old : List ℕ) → start ≤ end → end ≤ length old → length (splice start end new old) ≡ start + length new + (length old - end)
spliced_length start end new old h k = let n = splice_length start end new old h k in omega (arith, n, h, k)

-- three copies
pub splice_wrote : (d : List ℕ) (at start end : ℕ) (new old : List ℕ) → start ≤ end → end ≤ length old → at + start + length new + (length old - end) ≤ length d
    → {d₁ d₂ d₃ : List ℕ} → d₁ ≡ overwrite d at (take (start - 0) old) → d₂ ≡ overwrite d₁ (at + start) new → d₃ ≡ overwrite d₂ (at + start + length new) (take (length old - end) (drop end old))
    → d₃ ≡ overwrite d at (splice start end new old)
splice_wrote d at start end new old h k room {d₁} {d₂} {d₃} w₁ w₂ w₃ =
    let n₁ = length-take-le start old (omega (arith, h, k)) in
    let n₃ = length-drop end old in
    let n₂ = length-append (take start old) new in
    let a : Wrote d at (take start old) d₁ = record { is = w₁ ∙ ap (λ (k : ℕ). overwrite d at (take k old)) (sub-zero start) } in
    let b = wrote_next a (at + start) new w₂ (omega (arith, n₁)) (omega (arith, room)) in
    let all : take (length old - end) (drop end old) ≡ drop end old = take_all (length old - end) (drop end old) (omega (arith, n₃)) in
    let c = wrote_next b (at + start + length new) (drop end old) (w₃ ∙ ap (overwrite d₂ (at + start + length new)) all) (omega (arith, n₁, n₂)) (omega (arith, n₃, room)) in
    c.is ∙ ap (overwrite d at) (append_assoc (take start old) new (drop end old))

-- both texts, and the strings behind them
pub texts_wrote : (d xs ys zs : List ℕ) → length xs + length ys + length zs ≤ length d → {a b : ℕ} {d₁ d₂ d₃ : List ℕ} → (d₁ ≡ overwrite d 0 xs) × (a ≡ 0 + length xs)
    → (d₂ ≡ overwrite d₁ a ys) × (b ≡ a + length ys) → d₃ ≡ overwrite d₂ b zs → d₃ ≡ overwrite d 0 (xs ++ ys ++ zs)
texts_wrote d xs ys zs room {a} {b} {d₁} w₁ w₂ w₃ =
    let s₁ : Wrote d 0 xs d₁ = record { is = w₁.0 } in
    let s₂ = wrote_next s₁ a ys w₂.0 (omega (arith, w₁.1)) (omega (arith, w₁.1, room)) in
    let k = length-append xs ys in
    (wrote_next s₂ b zs w₃ (omega (arith, w₁.1, w₂.1, k)) (omega (arith, w₁.1, w₂.1, room))).is

-- the head, and the layers behind it
pub head_wrote : (d bs : List ℕ) (text normalized : ℕ) → 9 + length bs ≤ length d → {d₁ d₂ d₃ d₄ : List ℕ} → d₁ ≡ overwrite d 0 (1 ∷ []) → d₂ ≡ overwrite d₁ 1 (word_bytes text)
    → d₃ ≡ overwrite d₂ 5 (word_bytes normalized) → d₄ ≡ overwrite d₃ 9 bs → d₄ ≡ overwrite d 0 (head_bytes text normalized ++ bs)
unfolding head_bytes
head_wrote d bs text normalized room {d₁} w₁ w₂ w₃ w₄ =
    let n = word_length text in
    let m = word_length normalized in
    let a : Wrote d 0 (1 ∷ []) d₁ = record { is = w₁ } in
    let b = wrote_next a 1 (word_bytes text) w₂ (omega arith) (omega (arith, n, room)) in
    let x = length-append (1 ∷ []) (word_bytes text) in
    let c = wrote_next b 5 (word_bytes normalized) w₃ (omega (arith, n, x)) (omega (arith, m, room)) in
    let y = length-append ((1 ∷ []) ++ word_bytes text) (word_bytes normalized) in
    (wrote_next c 9 bs w₄ (omega (arith, n, m, x, y)) (omega (arith, room))).is
