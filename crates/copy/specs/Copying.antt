-- `copy_book`: a book read and written again is the same bytes, so it is copied.
use Rattle.std.specs.Prelude.{◌≡◌, ℕ, ◌-◌, ◌≤◌, ◌<◌, not, List, length, replicate, eqb, leb}
use Rattle.std.proofs.Math.Path.{refl, sym, ap}
use Rattle.std.proofs.Common.{◌∙◌, arith}
use Rattle.std.proofs.Math.Nat.{sub-zero}
use Rattle.std.proofs.Math.Bool.{and-false}
use borrow.Author.Tests.{eqb-true, eqb-false, le-leb, lt-leb, leb-true, leb-false}
use Rattle.model.specs.Refusal.{Checked, Checked.refused, Checked.accepted, ◌>>=◌, refuse◌if◌, number_of}
use Rattle.model.specs.Bytes.{AreBytes, zeros}
use Rattle.model.specs.Tape.{places, book_at}
use Rattle.model.specs.WellFormed.{check_book}
use Rattle.model.specs.Merge.{Stored, stored_of, Room, stored_book, fits_room, padded}
use Rattle.model.specs.Lookup.{copy_book, copy_into, copied_tape, copied_bytes}
use Rattle.facts.specs.Truth.{by_bool}
use Rattle.laws.specs.RoundTrip.{read_write}
use Rattle.wire.specs.Overwrite.{overwrite, overwrite_all}
use Rattle.tape.specs.Accepted.{Accepted, refusal_of, accepted_book}
use Rattle.refusal.specs.Refusal.{checked_map, was_refused, was_accepted}
use Rattle.copy.specs.declared.Copied.{Copied}

-- ---- the answer

-- A number 1 to 7 or 18, or the lengths of the copy.
unfoldable pub copied_of : Checked Stored → Checked Copied
copied_of = checked_map (λ s. record { tape = length s.tape; bytes = length s.bytes })

-- what is lent: two result buffers of these lengths, no work words
abbrev room_for : ℕ → ℕ → Room
room_for tape bytes = record { tape_bytes = tape; text_bytes = bytes; work_words = 0 }

-- ---- refused, or copied

module _ (t d : List ℕ) (tape bytes : ℕ) where
  pub copy_refused : {n : ℕ} → check_book t d ≡ refused n → copy_into t d tape bytes ≡ refused n
  unfolding copy_into copy_book ◌>>=◌
  copy_refused e = rw e refl

  module _ (are : AreBytes t) (a : Accepted t d) where
    again : stored_book (book_at t (places t) d) ≡ stored_of t d
    unfolding stored_book
    again = let r = read_write t d (book_at t (places t) d) are a.parsed in rw (r.0, r.1) refl

    copy_if : copy_into t d tape bytes ≡ ((refuse◌if◌ 18 (not (fits_room (room_for tape bytes) (stored_of t d)))) >>= λ _. accepted (stored_of t d))
    unfolding copy_into copy_book ◌>>=◌
    copy_if = rw (a.book, again) refl

    pub copy_no_tape : tape < length t → copy_into t d tape bytes ≡ refused 18
    unfolding fits_room refuse◌if◌ ◌>>=◌
    copy_no_tape h = copy_if ∙ rw (lt-leb (length t) tape h) refl

    pub copy_no_bytes : bytes < length d → copy_into t d tape bytes ≡ refused 18
    unfolding fits_room refuse◌if◌ ◌>>=◌
    copy_no_bytes h = copy_if ∙ rw (lt-leb (length d) bytes h, and-false) refl

    pub copy_there : length t ≤ tape → length d ≤ bytes → copy_into t d tape bytes ≡ accepted (stored_of t d)
    unfolding fits_room refuse◌if◌ ◌>>=◌
    copy_there h k = copy_if ∙ rw (le-leb (length t) tape h, le-leb (length d) bytes k) refl

  -- what is known where it is not refused
  pub record Copies : Type 0 where
    pub is : copy_into t d tape bytes ≡ accepted (stored_of t d)
    pub tape_fits : length t ≤ tape
    pub bytes_fit : length d ≤ bytes

  copies_by : AreBytes t → number_of (copy_into t d tape bytes) ≡ 0 → Copies
  unfolding number_of
  copies_by are z =
      by_bool (eqb (number_of (check_book t d)) 0)
      (λ f.
      let a = accepted_book t d (eqb-true (number_of (check_book t d)) 0 f) in
      by_bool (leb (length t) tape)
      (λ g.
      by_bool (leb (length d) bytes)
      (λ h.
      let x = leb-true (length t) tape g in
      let y = leb-true (length d) bytes h in
      record { is = copy_there are a x y; tape_fits = x; bytes_fit = y })
      (λ h. let q : number_of (copy_into t d tape bytes) ≡ 18 = ap number_of (copy_no_bytes are a (leb-false (length d) bytes h)) in absurd (omega (arith, z, q))))
      (λ g. let q : number_of (copy_into t d tape bytes) ≡ 18 = ap number_of (copy_no_tape are a (leb-false (length t) tape g)) in absurd (omega (arith, z, q))))
      (λ f.
      let k = eqb-false (number_of (check_book t d)) 0 f in
      let q : number_of (copy_into t d tape bytes) ≡ number_of (check_book t d) = ap number_of (copy_refused (refusal_of (check_book t d) refl k)) in absurd (k (sym q ∙ z)))

  pub copies : AreBytes t → accepted (tt {0}) ≡ checked_map (λ _. tt {0}) (copy_into t d tape bytes) → Copies
  unfolding number_of
  copies are e = copies_by are (ap number_of (was_accepted (λ (s : Stored). tt {0}) (copy_into t d tape bytes) e).1)

-- ---- the returns of `copy_book`

-- a buffer cleared, as `zero_from` does it
cleared : (a x : List ℕ) → x ≡ overwrite a 0 (zeros (length a - 0)) → x ≡ replicate (length a) 0
cleared a x e = e ∙ ap (λ (k : ℕ). overwrite a 0 (zeros k)) (sub-zero (length a)) ∙ overwrite_all a

-- the buffers were `a` and `b`
pub copied_refused : (t d a b : List ℕ) {n : ℕ} → refused n ≡ checked_map (λ _. tt {0}) (copy_into t d (length a) (length b))
    → (x y : List ℕ) → x ≡ overwrite a 0 (zeros (length a - 0)) → y ≡ overwrite b 0 (zeros (length b - 0))
    → (refused n ≡ copied_of (copy_into t d (length a) (length b)))
    × (x ≡ copied_tape (length a) (copy_into t d (length a) (length b))) × (y ≡ copied_bytes (length b) (copy_into t d (length a) (length b)))
unfolding copied_of copied_tape copied_bytes
copied_refused t d a b e x y p q = rw (was_refused (λ (s : Stored). tt {0}) (copy_into t d (length a) (length b)) e) (refl, cleared a x p, cleared b y q)

pub copied_there : (t d : List ℕ) (tape bytes : ℕ) → Copies t d tape bytes → (x y : List ℕ) → x ≡ padded tape t → y ≡ padded bytes d
    → (accepted (record { tape = length t; bytes = length d }) ≡ copied_of (copy_into t d tape bytes))
    × (x ≡ copied_tape tape (copy_into t d tape bytes)) × (y ≡ copied_bytes bytes (copy_into t d tape bytes))
unfolding copied_of copied_tape copied_bytes
copied_there t d tape bytes c x y p q = rw c.is (refl, p, q)
