-- How much of the input has to be read.
use Rattle.std.specs.Prelude.{◌≡◌, refl, ℕ, ◌+◌, ◌≤◌, Bool, true, false, cond, ◌&&◌, List, [], ◌∷◌, length, take, leb, ltb, eqb}
use Rattle.std.proofs.Common.{sym, ap, ◌∙◌, arith}
use Rattle.std.proofs.Math.ListN.{length-take}
use Rattle.std.proofs.Math.Seq.{take_all}
use borrow.Author.Tests.{leb-true, leb-false, le-ltb, ne_eqb}
use Rattle.model.specs.Limits.{max_part}
use Rattle.model.specs.Bytes.{word_at}
use Rattle.model.specs.Refusal.{Checked.refused, ◌>>=◌, refuse◌if◌, number_of}
use Rattle.facts.specs.Truth.{both, by_bool}
use Rattle.lines.specs.Text.{refused_line}
use Rattle.lines.specs.Input.{same_word}
use Rattle.inspect.specs.Inspect.{behind, asked_behind, asked, lines_of, inspect}

abbrev fits : List ℕ → Bool
fits x = leb (word_at x 0) max_part && leb (word_at x 4) max_part

-- the number of an input of 196629 bytes or more
abbrev long_number : List ℕ → ℕ
long_number x = cond (fits x) (cond (leb (word_at x (behind x + 8)) max_part) 1 3) 3

behind_few : (x : List ℕ) → fits x ≡ true → behind x ≤ 131080
behind_few x e =
    let f = both (leb (word_at x 0) max_part) (leb (word_at x 4) max_part) e in
    omega (arith, leb-true (word_at x 0) max_part f.0, leb-true (word_at x 4) max_part f.1)

long_asked : (x : List ℕ) → 196629 ≤ length x → asked x ≡ refused (long_number x)
unfolding asked asked_behind refuse◌if◌ ◌>>=◌
long_asked x h =
    by_bool (fits x)
    (λ a.
    let m = behind_few x a in
    let u : ltb (length x) 8 ≡ false = le-ltb (length x) 8 (omega (arith, h)) in
    let v : eqb (length x) (behind x) ≡ false = ne_eqb (length x) (behind x) (λ e. omega (arith, e, h, m)) in
    let w : ltb (length x) (behind x + 12) ≡ false = le-ltb (length x) (behind x + 12) (omega (arith, h, m)) in
    by_bool (leb (word_at x (behind x + 8)) max_part)
    (λ b.
    let r = leb-true (word_at x (behind x + 8)) max_part b in
    let y : eqb (length x) (behind x + 12 + word_at x (behind x + 8)) ≡ false = ne_eqb (length x) (behind x + 12 + word_at x (behind x + 8)) (λ e. omega (arith, e, h, m, r)) in
    rw (u, a, v, w, b, y) refl)
    (λ b. rw (u, a, v, w, b) refl))
    (λ a. rw (le-ltb (length x) 8 (omega (arith, h)), a) refl)

same_number : (s : List ℕ) → long_number (take 196629 s) ≡ long_number s
same_number s =
    let a = same_word s 196629 0 (omega arith) in
    let b = same_word s 196629 4 (omega arith) in
    by_bool (fits s)
    (λ e.
    let m = behind_few s e in
    let q : behind (take 196629 s) ≡ behind s = rw (a, b) refl in
    let c : word_at (take 196629 s) (behind (take 196629 s) + 8) ≡ word_at s (behind s + 8)
    = ap (λ (k : ℕ). word_at (take 196629 s) (k + 8)) q ∙ same_word s 196629 (behind s + 8) (omega (arith, m)) in
    rw (c, a, b) refl)
    (λ e. rw (a, b, e) refl)

long_inspect : (x : List ℕ) → 196629 ≤ length x → inspect x ≡ refused_line (long_number x) ∷ []
unfolding inspect lines_of
long_inspect x h = ap (lines_of x) (long_asked x h)

long_refused : (x : List ℕ) → long_number x ≡ 0 → ⊥
long_refused x z =
    by_bool (fits x)
    (λ a.
    by_bool (leb (word_at x (behind x + 8)) max_part)
    (λ b. let e : 1 ≡ 0 = rw (a, b) at z in absurd (omega (arith, e)))
    (λ b. let e : 3 ≡ 0 = rw (a, b) at z in absurd (omega (arith, e))))
    (λ a. let e : 3 ≡ 0 = rw a at z in absurd (omega (arith, e)))

-- The first 196629 bytes are enough: two words, two parts of 65536 bytes, three words, a part of 65536 bytes, and one byte that shows a surplus.
module _ (s : List ℕ) where
  -- for whatever is made of their number where there are that many
  enough : {A : Type 0} (f : List ℕ → A) (g : ℕ → A) → ((x : List ℕ) → 196629 ≤ length x → f x ≡ g (long_number x)) → f (take 196629 s) ≡ f s
  enough f g k =
      by_bool (leb (length s) 196629)
      (λ e. ap f (take_all 196629 s (leb-true (length s) 196629 e)))
      (λ e.
      let h = leb-false (length s) 196629 e in
      let l = length-take 196629 s in
      k (take 196629 s) (omega (arith, l, h)) ∙ ap g (same_number s) ∙ sym (k s (omega (arith, h))))

  pub asked_cut : asked (take 196629 s) ≡ asked s
  asked_cut = enough asked refused long_asked

  pub inspect_cut : inspect (take 196629 s) ≡ inspect s
  inspect_cut = enough inspect (λ n. refused_line n ∷ []) long_inspect

  -- what is not refused has been read whole
  pub read_whole : number_of (asked (take 196629 s)) ≡ 0 → take 196629 s ≡ s
  unfolding number_of
  read_whole z =
      by_bool (leb (length s) 196629)
      (λ e. take_all 196629 s (leb-true (length s) 196629 e))
      (λ e.
      let h = leb-false (length s) 196629 e in
      let l = length-take 196629 s in
      absurd (long_refused (take 196629 s) (ap number_of (sym (long_asked (take 196629 s) (omega (arith, l, h)))) ∙ z)))

-- ---- of a stream s, all bytes stand in a buffer, or as many as it holds

module _ (x s : List ℕ) (e : take 196629 s ≡ x) where
  pub read_asked : asked x ≡ asked s
  read_asked = ap asked (sym e) ∙ asked_cut s

  pub read_stream : number_of (asked x) ≡ 0 → x ≡ s
  read_stream z = sym e ∙ read_whole s (ap (λ (y : List ℕ). number_of (asked y)) e ∙ z)
