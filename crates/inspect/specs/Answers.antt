-- The returns of the code.
use Rattle.std.specs.Prelude.{◌≡◌, ℕ, ◌+◌, ◌-◌, ◌≤◌, false, cond, ◌&&◌, List, ◌++◌, length, take, drop, leb, ltb, eqb}
use Rattle.std.proofs.Math.Path.{refl}
use Rattle.std.proofs.Common.{sym, ap, ◌∙◌, arith, length-take}
use Rattle.std.proofs.Math.Option.{Option, none, some}
use borrow.Author.Tests.{leb-true, ltb-false, eq-eqb, ne_eqb}
use Rattle.model.specs.Lists.{ascii}
use Rattle.model.specs.Limits.{max_part}
use Rattle.model.specs.Bytes.{word_at, part}
use Rattle.model.specs.Offset.{Span}
use Rattle.model.specs.Types.{LexOutput}
use Rattle.model.specs.Tape.{book_at}
use Rattle.model.specs.Refusal.{Checked, Checked.refused, Checked.accepted, ◌>>=◌, refuse◌if◌}
use Rattle.model.specs.WellFormed.{check_book}
use Rattle.model.specs.Region.{Edit, region_text, chosen_region, choose_region, edit_of}
use Rattle.facts.specs.Truth.{both, by_bool}
use Rattle.refusal.specs.declared.Refusal.{Refusal}
use Rattle.refusal.specs.Refusal.{number, number_bounds}
use Rattle.tape.specs.declared.book.Book.{Book}
use Rattle.tape.specs.Accepted.{Accepted}
use Rattle.tape.specs.Opened.{BookOf, book_held}
use Rattle.tape.specs.StringBytes.{book_of}
use Rattle.region.specs.Entry.{choose_refused, choose_opened}
use Rattle.lines.specs.Text.{numbered}
use Rattle.lines.specs.Quoted.{quoted}
use Rattle.listing.specs.declared.Listed.{Listed}
use Rattle.listing.specs.Strings.{text_short}
use Rattle.inspect.specs.Inspect.{tape_in, bytes_in, behind, edit_at, asked_book, asked_edit, asked_behind, asked, passage_line}

-- ---- the input's own numbers

-- 1 and 3 of tape and bytes
unfoldable pub head_number : List ℕ → ℕ
head_number s = cond (ltb (length s) 8) 1 (cond (leb (word_at s 0) max_part && leb (word_at s 4) max_part) 0 3)

-- 1 and 3 of an edit at p
unfoldable pub edit_number : List ℕ → ℕ → ℕ
edit_number s p = cond (ltb (length s) (p + 12)) 1 (cond (leb (word_at s (p + 8)) max_part) (cond (eqb (length s) (p + 12 + word_at s (p + 8))) 0 1) 3)

abbrev pub book_or_edit : List ℕ → Checked (Option Span)
book_or_edit s = cond (eqb (length s) (behind s)) (asked_book (tape_in s) (bytes_in s)) (asked_behind s (behind s))

asked_by : (s : List ℕ) → asked s ≡ cond (eqb (head_number s) 0) (book_or_edit s) (refused (head_number s))
unfolding asked head_number refuse◌if◌ ◌>>=◌
asked_by s =
    by_bool (ltb (length s) 8)
    (λ a. rw a refl)
    (λ a.
    by_bool (leb (word_at s 0) max_part && leb (word_at s 4) max_part)
    (λ b. rw (a, b) refl)
    (λ b. rw (a, b) refl))

behind_by : (s : List ℕ) (p : ℕ) → asked_behind s p ≡ cond (eqb (edit_number s p) 0) (asked_edit (tape_in s) (bytes_in s) (edit_at s p)) (refused (edit_number s p))
unfolding asked_behind edit_number refuse◌if◌ ◌>>=◌
behind_by s p =
    by_bool (ltb (length s) (p + 12))
    (λ a. rw a refl)
    (λ a.
    by_bool (leb (word_at s (p + 8)) max_part)
    (λ b.
    by_bool (eqb (length s) (p + 12 + word_at s (p + 8)))
    (λ c. rw (a, b, c) refl)
    (λ c. rw (a, b, c) refl))
    (λ b. rw (a, b) refl))

-- what is known of an input without a number
pub record Headed (s : List ℕ) : Type 0 where
  pub head : 8 ≤ length s
  pub tape : word_at s 0 ≤ 65536
  pub bytes : word_at s 4 ≤ 65536

pub headed : (s : List ℕ) {n : ℕ} → n ≡ head_number s → n ≡ 0 → Headed s
unfolding head_number
headed s e z =
    by_bool (ltb (length s) 8)
    (λ a. let q : 1 ≡ 0 = sym (rw a refl) ∙ sym e ∙ z in absurd (omega (arith, q)))
    (λ a.
    by_bool (leb (word_at s 0) max_part && leb (word_at s 4) max_part)
    (λ b.
    let f = both (leb (word_at s 0) max_part) (leb (word_at s 4) max_part) b in
    record { head = ltb-false (length s) 8 a; tape = leb-true (word_at s 0) max_part f.0; bytes = leb-true (word_at s 4) max_part f.1 })
    (λ b. let q : 3 ≡ 0 = sym (rw (a, b) refl) ∙ sym e ∙ z in absurd (omega (arith, q))))

pub behind_few : {s : List ℕ} → Headed s → behind s ≤ 131080
behind_few h = omega (arith, h.tape, h.bytes)

pub edit_there : (s : List ℕ) (p : ℕ) {n : ℕ} → n ≡ edit_number s p → n ≡ 0 → (p + 12 ≤ length s) × (word_at s (p + 8) ≤ 65536)
unfolding edit_number
edit_there s p e z =
    by_bool (ltb (length s) (p + 12))
    (λ a. let q : 1 ≡ 0 = sym (rw a refl) ∙ sym e ∙ z in absurd (omega (arith, q)))
    (λ a.
    by_bool (leb (word_at s (p + 8)) max_part)
    (λ b. (ltb-false (length s) (p + 12) a, leb-true (word_at s (p + 8)) max_part b))
    (λ b. let q : 3 ≡ 0 = sym (rw (a, b) refl) ∙ sym e ∙ z in absurd (omega (arith, q))))

-- tape and bytes, as the code cuts them out
module _ (s : List ℕ) {a : ℕ} (p : a ≡ word_at s 0) where
  pub tape_part : {x : List ℕ} → x ≡ part s 8 (8 + a - 8) → x ≡ tape_in s
  tape_part e = let z : 8 + a - 8 ≡ a = omega arith in e ∙ rw (z, p) refl

  pub bytes_part : {b : ℕ} → b ≡ word_at s 4 → {x : List ℕ} → x ≡ part s (8 + a) (8 + a + b - (8 + a)) → x ≡ bytes_in s
  bytes_part {b} q e = let z : 8 + a + b - (8 + a) ≡ b = omega arith in e ∙ rw (z, p, q) refl

-- the edit, as the code cuts it out
pub edit_read : (s : List ℕ) (p : ℕ) {start end n : ℕ} {w : List ℕ} → start ≡ word_at s p → end ≡ word_at s (p + 4) → n ≡ word_at s (p + 8)
    → w ≡ part s (p + 12) (p + 12 + n - (p + 12)) → edit_of start end w ≡ edit_at s p
unfolding edit_of
edit_read s p {n = n} e f g h = let z : p + 12 + n - (p + 12) ≡ n = omega arith in rw (h, z, e, f, g) refl

-- ---- the answers

-- a refusal's number is not 0
refused_here : (r : Refusal) {n : ℕ} → number r ≡ n → eqb n 0 ≡ false
refused_here r {n} e = ne_eqb n 0 (λ z. let b = number_bounds r in omega (arith, b, e, z))

module _ (s : List ℕ) where
  pub head_refused : (r : Refusal) → number r ≡ head_number s → asked s ≡ refused (number r)
  head_refused r e = asked_by s ∙ rw (refused_here r e, e) refl

  module _ (z : 0 ≡ head_number s) where
    here : asked s ≡ book_or_edit s
    here = asked_by s ∙ rw (← z) refl

    module _ {t d : List ℕ} (f : t ≡ tape_in s) (g : d ≡ bytes_in s) {p : ℕ} (q : p ≡ behind s) where
      -- ---- tape and bytes alone

      module _ (l : length s ≡ p) where
        alone : asked s ≡ asked_book t d
        alone = here ∙ rw (eq-eqb (length s) (behind s) (l ∙ q), f, g) refl

        pub book_refused : {n : ℕ} → check_book t d ≡ refused n → asked s ≡ refused n
        unfolding asked_book ◌>>=◌
        book_refused e = alone ∙ rw e refl

        pub book_shown : {b : Book} → BookOf t d b → asked s ≡ accepted none
        unfolding asked_book ◌>>=◌
        book_shown h = alone ∙ rw (book_held h).accepted.book refl

      -- ---- with an edit

      module _ (l : length s ≡ p → ⊥) where
        there : asked s ≡ asked_behind s p
        there = here ∙ rw (ne_eqb (length s) (behind s) (λ w. l (w ∙ sym q)), q) refl

        pub edit_refused : (r : Refusal) → number r ≡ edit_number s p → asked s ≡ refused (number r)
        edit_refused r e = there ∙ behind_by s p ∙ rw (refused_here r e, e) refl

        module _ (e : 0 ≡ edit_number s p) where
          edit_asked : asked s ≡ asked_edit t d (edit_at s p)
          edit_asked = there ∙ behind_by s p ∙ rw (← e, f, g) refl

          pub edited_refused : {n : ℕ} → check_book t d ≡ refused n → asked s ≡ refused n
          unfolding asked_edit ◌>>=◌
          edited_refused k = edit_asked ∙ rw (sym (choose_refused t d (edit_at s p) k)) refl

          module _ {b : Book} (h : BookOf t d b) {m : Edit} (i : m ≡ edit_at s p) where
            chosen : {x : Checked Span} → x ≡ chosen_region (book_of b) m → x ≡ choose_region t d (edit_at s p)
            chosen c = choose_opened h (edit_at s p) (c ∙ ap (chosen_region (book_of b)) i)

            pub region_refused : {n : ℕ} → refused n ≡ chosen_region (book_of b) m → asked s ≡ refused n
            unfolding asked_edit ◌>>=◌
            region_refused c = edit_asked ∙ rw (sym (chosen c)) refl

            pub region_shown : {r : Span} → accepted r ≡ chosen_region (book_of b) m → asked s ≡ accepted (some r)
            unfolding asked_edit ◌>>=◌
            region_shown c = edit_asked ∙ rw (sym (chosen c)) refl

-- the bytes are few
pub read_short : (s : List ℕ) → Headed s → {d e : List ℕ} → e ≡ bytes_in s → d ≡ e → length d ≤ 65536
read_short s h e f = let a = length-take (word_at s 4) (drop (8 + word_at s 0) s) in omega (arith, ap length f, ap length e, a, h.bytes)

-- ---- the passage

pub passage_short : (a : Listed) (r : Span) {x : List ℕ} → x ≡ region_text (book_of a.book) r → length x ≤ 65536
unfolding region_text book_at
passage_short a r e =
    let text = take (word_at a.book.tape.now 1) a.book.bytes.now in
    let l = length-take (word_at a.book.tape.now 1) a.book.bytes.now in
    text_short text r.start (r.end - r.start) (omega (arith, l, a.short)) e

-- its parts, one behind the other
pub passage_put : (b : LexOutput) (r : Span) {x y : ℕ} {text : List ℕ} → x ≡ r.start → y ≡ r.end → text ≡ region_text b r
    → numbered (ascii "passage ") x ++ (numbered (ascii " ") y ++ (ascii " " ++ (quoted text ++ ascii "\n"))) ≡ passage_line b r
unfolding passage_line
passage_put b r p q e = rw (p, q, e) refl
