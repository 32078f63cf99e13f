-- The input of the program `merge`: numbers 1 and 3 before all else, the parts, and how much of it has to be read.
use Rattle.std.specs.Prelude.{◌≡◌, ℕ, ◌+◌, ◌-◌, ◌≤◌, ◌<◌, Bool, true, false, cond, List, [], ◌∷◌, length, take, leb, ltb, eqb}
use Rattle.std.proofs.Math.Path.{refl, sym}
use Rattle.std.proofs.Common.{ap, ◌∙◌, arith, length-take, take_all}
use borrow.Author.Tests.{leb-true, leb-false, ltb-false, eqb-true, le-ltb, lt-ltb, ne_eqb, eq-eqb}
use Rattle.model.specs.Lists.{all, sum}
use Rattle.model.specs.Limits.{max_part}
use Rattle.model.specs.Bytes.{word_at, part}
use Rattle.model.specs.Refusal.{Checked, Checked.refused, ◌>>=◌, refuse◌if◌}
use Rattle.model.specs.Region.{edit_of}
use Rattle.model.specs.Merge.{Room, IncrementalOutput, merge}
use Rattle.model.specs.Runs.{part_lengths, asked, program}
use Rattle.facts.specs.Truth.{both, by_bool}
use Rattle.lines.specs.Input.{same_word}
use Rattle.refusal.specs.declared.Refusal.{Refusal}
use Rattle.refusal.specs.Refusal.{number, number_bounds}
use Rattle.output.specs.Answer.{Merged, output_of}
use Rattle.output.specs.declared.IncrementalOutput.{IncrementalOutput as Output}

-- each part is at most 65536 bytes long
unfoldable pub parts_fit : List ℕ → Bool
parts_fit = all (λ n. leb n max_part)

-- Fewer than seven words: 1. A part that is too long: 3. Short or surplus input: 1. Else 0.
unfoldable pub input_number : List ℕ → ℕ
input_number s =
    cond (ltb (length s) 28) 1
    (cond (parts_fit (part_lengths s))
    (cond (eqb (length s) (28 + sum (part_lengths s))) 0 1)
    3)

-- ---- the program is refused by that number, or asks for a merge

program_by : (s : List ℕ) → program s ≡ cond (eqb (input_number s) 0) (asked s) (refused (input_number s))
unfolding program input_number parts_fit refuse◌if◌ ◌>>=◌
program_by s =
    by_bool (ltb (length s) 28)
    (λ a. rw a refl)
    (λ a.
    by_bool (all (λ (n : ℕ). leb n max_part) (part_lengths s))
    (λ b.
    by_bool (eqb (length s) (28 + sum (part_lengths s)))
    (λ c. rw (a, b, c) refl)
    (λ c. rw (a, b, c) refl))
    (λ b. rw (a, b) refl))

module _ (s : List ℕ) where
  pub input_refused : (r : Refusal) → number r ≡ input_number s → refused (number r) ≡ output_of (program s)
  input_refused r e =
      let b = number_bounds r in
      let q : program s ≡ refused (number r) = program_by s ∙ rw (← e, ne_eqb (number r) 0 (λ z. omega (arith, z, b))) refl in
      sym (ap output_of q)

  pub input_asks : 0 ≡ input_number s → program s ≡ asked s
  input_asks e = program_by s ∙ rw (← e) refl

-- what is known of an input without a number
pub record Whole (s : List ℕ) : Type 0 where
  pub head : 28 ≤ length s
  pub parts : parts_fit (part_lengths s) ≡ true
  pub size : length s ≡ 28 + sum (part_lengths s)

pub input_whole : (s : List ℕ) → 0 ≡ input_number s → Whole s
unfolding input_number
input_whole s e =
    by_bool (ltb (length s) 28)
    (λ a. let q : 1 ≡ 0 = sym (rw a refl) ∙ sym e in absurd (omega (arith, q)))
    (λ a.
    by_bool (parts_fit (part_lengths s))
    (λ b.
    by_bool (eqb (length s) (28 + sum (part_lengths s)))
    (λ c. record { head = ltb-false (length s) 28 a; parts = b; size = eqb-true (length s) (28 + sum (part_lengths s)) c })
    (λ c. let q : 1 ≡ 0 = sym (rw (a, b, c) refl) ∙ sym e in absurd (omega (arith, q))))
    (λ b. let q : 3 ≡ 0 = sym (rw (a, b) refl) ∙ sym e in absurd (omega (arith, q))))

-- ---- the returns of `check_input`

pub number_short : (s : List ℕ) → length s < 28 → 1 ≡ input_number s
unfolding input_number
number_short s h = rw (lt-ltb (length s) 28 h) refl

module _ (s : List ℕ) (h : 28 ≤ length s) {a b c d e : ℕ} (p : a ≡ word_at s 0) (q : b ≡ word_at s 4) (r : c ≡ word_at s 16) (t : d ≡ word_at s 20) (u : e ≡ word_at s 24)
    {x : Bool} (f : x ≡ parts_fit (a ∷ b ∷ c ∷ d ∷ e ∷ [])) where
  lengths : a ∷ b ∷ c ∷ d ∷ e ∷ [] ≡ part_lengths s
  unfolding part_lengths
  lengths = rw (p, q, r, t, u) refl

  fit : parts_fit (part_lengths s) ≡ x
  fit = ap parts_fit (sym lengths) ∙ sym f

  size : sum (part_lengths s) ≡ a + b + c + d + e
  size = let z = ap sum (sym lengths) in omega (arith, z)

  pub number_part : x ≡ false → 3 ≡ input_number s
  unfolding input_number
  number_part g = rw (le-ltb (length s) 28 h, fit, g) refl

  pub number_size : x ≡ true → (length s ≡ 28 + a + b + c + d + e → ⊥) → 1 ≡ input_number s
  unfolding input_number
  number_size g n =
      let z = size in
      rw (le-ltb (length s) 28 h, fit, g, ne_eqb (length s) (28 + sum (part_lengths s)) (λ y. n (omega (arith, y, z)))) refl

  pub number_none : x ≡ true → length s ≡ 28 + a + b + c + d + e → 0 ≡ input_number s
  unfolding input_number
  number_none g n =
      let z = size in
      rw (le-ltb (length s) 28 h, fit, g, eq-eqb (length s) (28 + sum (part_lengths s)) (omega (arith, n, z))) refl

-- ---- the parts

same_part : (s : List ℕ) (at n : ℕ) {x : List ℕ} → x ≡ part s at (at + n - at) → x ≡ part s at n
same_part s at n e = let z : at + n - at ≡ n = omega arith in rw z at e

-- What the merge of the five parts answers is what the input asks for.
pub asked_answer : (s : List ℕ) {a b c d e start end : ℕ} → a ≡ word_at s 0 → b ≡ word_at s 4 → start ≡ word_at s 8 → end ≡ word_at s 12 → c ≡ word_at s 16 → d ≡ word_at s 20 → e ≡ word_at s 24
    → {oldTape oldBytes replacement newTape newBytes : List ℕ}
    → oldTape ≡ part s 28 (28 + a - 28) → oldBytes ≡ part s (28 + a) (28 + a + b - (28 + a)) → replacement ≡ part s (28 + a + b) (28 + a + b + c - (28 + a + b))
    → newTape ≡ part s (28 + a + b + c) (28 + a + b + c + d - (28 + a + b + c)) → newBytes ≡ part s (28 + a + b + c + d) (28 + a + b + c + d + e - (28 + a + b + c + d))
    → {room : Room} {r : Checked Output} {out text work : List ℕ} → room.tape_bytes ≡ 65536 → room.text_bytes ≡ 65536 → room.work_words ≡ 16384
    → Merged (merge (record { tape = oldTape; bytes = oldBytes }) (edit_of start end replacement) (record { tape = newTape; bytes = newBytes }) room) room r out text work
    → r ≡ output_of (asked s)
unfolding asked edit_of
asked_answer s {a} {b} {c} {d} {e} p q st en v t u f₁ f₂ f₃ f₄ f₅ k₁ k₂ k₃ m =
    let g₁ = same_part s 28 a f₁ in
    let g₂ = same_part s (28 + a) b f₂ in
    let g₃ = same_part s (28 + a + b) c f₃ in
    let g₄ = same_part s (28 + a + b + c) d f₄ in
    let g₅ = same_part s (28 + a + b + c + d) e f₅ in
    m.answer ∙ rw (g₁, g₂, g₃, g₄, g₅, p, q, st, en, v, t, u, k₁, k₂, k₃) refl

-- ---- how much has to be read

same_lengths : (s : List ℕ) (n : ℕ) → 28 ≤ n → part_lengths (take n s) ≡ part_lengths s
unfolding part_lengths
same_lengths s n h =
    rw (same_word s n 0 (omega arith), same_word s n 4 (omega arith), same_word s n 16 (omega arith), same_word s n 20 (omega arith), same_word s n 24 (omega arith)) refl

parts_sum : (s : List ℕ) → parts_fit (part_lengths s) ≡ true → sum (part_lengths s) ≤ 327680
unfolding parts_fit part_lengths
parts_sum s e =
    let a = both (leb (word_at s 0) max_part) _ e in
    let b = both (leb (word_at s 4) max_part) _ a.1 in
    let c = both (leb (word_at s 16) max_part) _ b.1 in
    let d = both (leb (word_at s 20) max_part) _ c.1 in
    let f = both (leb (word_at s 24) max_part) _ d.1 in
    omega (arith, leb-true (word_at s 0) max_part a.0, leb-true (word_at s 4) max_part b.0, leb-true (word_at s 16) max_part c.0, leb-true (word_at s 20) max_part d.0, leb-true (word_at s 24) max_part f.0)

-- an input of 327709 bytes or more is refused by its head alone
long_number_lem : (s : List ℕ) → 327709 ≤ length s → input_number s ≡ cond (parts_fit (part_lengths s)) 1 3
unfolding input_number
long_number_lem s h =
    by_bool (parts_fit (part_lengths s))
    (λ e. let m = parts_sum s e in rw (le-ltb (length s) 28 (omega (arith, h)), e, ne_eqb (length s) (28 + sum (part_lengths s)) (λ y. omega (arith, y, m, h))) refl)
    (λ e. rw (le-ltb (length s) 28 (omega (arith, h)), e) refl)

never_none : (x : Bool) {A : Type 0} (a b : A) → cond (eqb (cond x 1 3) 0) a b ≡ b
never_none true a b = refl
never_none false a b = refl

long_program : (s : List ℕ) → 327709 ≤ length s → program s ≡ refused (cond (parts_fit (part_lengths s)) 1 3)
long_program s h = program_by s ∙ rw (long_number_lem s h) (never_none (parts_fit (part_lengths s)) (asked s) (refused (cond (parts_fit (part_lengths s)) 1 3)))

-- The first 327709 bytes are enough: seven words, five parts of 65536 bytes, and one byte that shows a surplus.
pub program_cut : (s : List ℕ) → program (take 327709 s) ≡ program s
program_cut s =
    by_bool (leb (length s) 327709)
    (λ e. ap program (take_all 327709 s (leb-true (length s) 327709 e)))
    (λ e.
    let h = leb-false (length s) 327709 e in
    let l = length-take 327709 s in
    long_program (take 327709 s) (omega (arith, l, h))
    ∙ ap {B = Checked IncrementalOutput} (λ (x : List ℕ). refused (cond (parts_fit x) 1 3)) (same_lengths s 327709 (omega arith))
    ∙ sym (long_program s (omega (arith, h))))
