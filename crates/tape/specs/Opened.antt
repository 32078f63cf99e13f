-- What `open_book` and `open_reading` answer, and the laws for their returns.
use Rattle.std.specs.Prelude.{◌≡◌, ℕ, List, length, Some, Result, Ok, Err, MatchResult}
use Rattle.std.proofs.Math.Path.{sym}
use Rattle.std.proofs.Common.{◌∙◌, subst}
use borrow.Author.Tests.{eq-eqb}
use Rattle.model.specs.Refusal.{Checked.refused, ◌>>=◌, refuse◌if◌}
use Rattle.model.specs.Tape.{places, book_at}
use Rattle.model.specs.WellFormed.{check_book, check_reading, laid_out}
use Rattle.refusal.specs.declared.Refusal.{Refusal}
use Rattle.refusal.specs.Refusal.{number, refused_by}
use Rattle.places.specs.declared.Places.{Places}
use Rattle.store.specs.declared.Store.{Store}
use Rattle.store.specs.Stored.{store_at}
use Rattle.layout.specs.Shaped.{Laid}
use Rattle.places.specs.Found.{places_of}
use Rattle.tape.specs.Numbers.{book_number, book_some, framed_one}
use Rattle.tape.specs.Accepted.{Accepted, AcceptedReading, accepted_book}
use Rattle.tape.specs.Held.{Held}
use Rattle.tape.specs.declared.book.Book.{Book}

-- the book of that tape and those bytes; what is known of it is its field `held`
pub record BookOf (t d : List ℕ) (b : Book) : Type 0 where
  pub tape : b.tape.now ≡ t
  pub bytes : b.bytes.now ≡ d

-- Numbers 1 to 7: one of them, or the book.
abbrev pub Opens : List ℕ → List ℕ → Result Book Refusal → Type 0
Opens t d x = MatchResult x (λ b. BookOf t d b) (λ r. check_book t d ≡ refused (number r))

-- Numbers 1 to 7 of a reading: one of them, or the reading.
abbrev pub OpensReading : List ℕ → List ℕ → Result Book Refusal → Type 0
OpensReading t d x = MatchResult x (λ b. BookOf t d b × AcceptedReading t d) (λ r. check_reading t d ≡ refused (number r))

pub book_held : {t d : List ℕ} {b : Book} → BookOf t d b → Held t d b.places b.store
book_held {t} {d} {b} h = subst (λ x. Held x d b.places b.store) h.tape (subst (λ y. Held b.tape.now y b.places b.store) h.bytes b.held)

-- a book of one layer is a reading
accepted_one : {t d : List ℕ} → Accepted t d → length (book_at t (places t) d).layers ≡ 1 → AcceptedReading t d
unfolding check_book check_reading laid_out refuse◌if◌ ◌>>=◌
accepted_one {t} {d} a n =
    record { reading = rw (a.parsed, eq-eqb (length (book_at t (places t) d).layers) 1 n) (rw a.parsed at a.book); one = n; whole = a }

module _ {t d : List ℕ} {p : Places} (l : Laid t d p) where
  pub laid_refused : (r : Refusal) → number r ≡ book_number (book_at t (places t) d) → check_book t d ≡ refused (number r)
  laid_refused r e = refused_by (check_book t d) r (book_some t d (book_at t (places t) d) l.book e)

  pub laid_held : {st : Store} → st ≡ store_at t → {n : ℕ} → n ≡ book_number (book_at t (places t) d) → n ≡ 0 → Held t d p st
  laid_held s e z = record { accepted = accepted_book t d (sym (book_some t d (book_at t (places t) d) l.book e) ∙ z); is = l.is; stored = s }

pub opens_reading : (t d : List ℕ) {p : Places} → places_of t d ≡ Some p → p.layers ≡ 1 → (x : Result Book Refusal) → Opens t d x → OpensReading t d x
opens_reading t d e n (Ok b) h = (h, accepted_one (book_held h).accepted (framed_one t d e n).0)
opens_reading t d e n (Err r) h = (framed_one t d e n).1 ∙ h
