-- Numbers 8, 2, 3 and 9 of an edit: they depend on the old text alone.
use Rattle.std.specs.Prelude.{◌≡◌, ℕ, ◌+◌, ◌-◌, ◌≤◌, Bool, true, false, cond, ◌&&◌, List, length}
use Rattle.std.proofs.Math.Path.{refl, sym, ap}
use Rattle.std.proofs.Common.{◌∙◌, arith}
use Rattle.std.proofs.Math.Dec.{leb}
use borrow.Author.Tests.{leb-true}
use Rattle.model.specs.Limits.{max_text}
use Rattle.model.specs.Lists.{same}
use Rattle.model.specs.Utf8.{utf8, is_char_boundary}
use Rattle.model.specs.Types.{LexOutput}
use Rattle.model.specs.Region.{Edit, edited, edit_ok, edit_of}
use Rattle.facts.specs.Truth.{both, by_bool}
use Rattle.edit.specs.Same.{edited_length}

-- Number 8. Start ≤ end ≤ length, neither inside a character.
unfoldable pub within : List ℕ → ℕ → ℕ → Bool
within text start end = leb start end && leb end (length text) && is_char_boundary text start && is_char_boundary text end

-- Number 3 of the new text, by lengths.
unfoldable pub length_fits : ℕ → ℕ → ℕ → ℕ → Bool
length_fits size start end added = leb (start + added + (size - end)) max_text

unfoldable pub edit_number : List ℕ → Edit → ℕ
edit_number text e =
    cond (within text e.start e.end)
    (cond (utf8 e.replacement)
    (cond (leb (length (edited text e)) max_text)
    (cond (same (edited text e) text) 9 0)
    3)
    2)
    8

-- number 8 of a book's edit
pub within_ok : (b : LexOutput) (e : Edit) → edit_ok b e ≡ within b.sanitized e.start e.end
unfolding edit_ok within
within_ok b e = refl

-- ---- number 8

module _ (text : List ℕ) (start end : ℕ) where
  pub within_facts : within text start end ≡ true → (start ≤ end) × (end ≤ length text)
  unfolding within
  within_facts e =
      let a = both (leb start end && leb end (length text) && is_char_boundary text start) (is_char_boundary text end) e in
      let b = both (leb start end && leb end (length text)) (is_char_boundary text start) a.0 in
      let c = both (leb start end) (leb end (length text)) b.0 in
      (leb-true start end c.0, leb-true end (length text) c.1)

-- ---- the numbers in their order

module _ (text : List ℕ) (start end : ℕ) (replacement : List ℕ) {a : Bool} (ea : a ≡ within text start end) where
  pub edit_eight : a ≡ false → 8 ≡ edit_number text (edit_of start end replacement)
  unfolding edit_number edit_of
  edit_eight f = rw (← ea, f) refl

  module _ (fa : a ≡ true) {b : Bool} (eb : b ≡ utf8 replacement) where
    pub edit_two : b ≡ false → 2 ≡ edit_number text (edit_of start end replacement)
    unfolding edit_number edit_of
    edit_two f = rw (← ea, fa, ← eb, f) refl

    pub edit_facts : length text ≤ max_text → (start ≤ end) × (end ≤ length text) × (length text ≤ max_text)
    edit_facts h = let w = within_facts text start end (sym ea ∙ fa) in (w.0, w.1, h)

    module _ (fb : b ≡ true) {l : Bool} (el : l ≡ length_fits (length text) start end (length replacement)) where
      fits : leb (length (edited text (edit_of start end replacement))) max_text ≡ l
      unfolding length_fits edit_of
      fits =
          let w = within_facts text start end (sym ea ∙ fa) in
          ap (λ (n : ℕ). leb n max_text) (edited_length text (edit_of start end replacement) w.0 w.1) ∙ sym el

      pub edit_three : l ≡ false → 3 ≡ edit_number text (edit_of start end replacement)
      unfolding edit_number edit_of
      edit_three f = rw (← ea, fa, ← eb, fb, fits, f) refl

      module _ (fl : l ≡ true) {s : Bool} (es : s ≡ same (edited text (edit_of start end replacement)) text) where
        pub edit_nine : s ≡ true → 9 ≡ edit_number text (edit_of start end replacement)
        unfolding edit_number edit_of
        edit_nine f = rw (← ea, fa, ← eb, fb, fits, fl, ← es, f) refl

        pub edit_pass : s ≡ false → 0 ≡ edit_number text (edit_of start end replacement)
        unfolding edit_number edit_of
        edit_pass f = rw (← ea, fa, ← eb, fb, fits, fl, ← es, f) refl

-- an edit without a number is inside the text
pub edit_inside : (text : List ℕ) (start end : ℕ) (replacement : List ℕ) {n : ℕ} → n ≡ edit_number text (edit_of start end replacement) → n ≡ 0 → (start ≤ end) × (end ≤ length text)
unfolding edit_number edit_of
edit_inside text start end replacement e z =
    by_bool (within text start end)
    (λ w. within_facts text start end w)
    (λ w. let q : 8 ≡ 0 = sym (rw w refl) ∙ sym e ∙ z in absurd (omega (arith, q)))
