-- What is read of a stream: a book that is shown, or a refusal.
use Rattle.std.specs.Prelude.{◌≡◌, ℕ, List, take, Result, MatchResult}
use Rattle.std.proofs.Common.{sym, ap, ◌∙◌}
use Rattle.model.specs.Refusal.{Checked, Checked.refused, Checked.accepted, number_of}
use Rattle.refusal.specs.declared.Refusal.{Refusal}
use Rattle.refusal.specs.Refusal.{number}
use Rattle.listing.specs.declared.Listed.{Listed}
use Rattle.listing.specs.Pieces.{mark_of}
use Rattle.inspect.specs.Inspect.{tape_in, bytes_in, asked}
use Rattle.inspect.specs.Cut.{read_asked, read_stream}

pub record Shown (s : List ℕ) (a : Listed) : Type 0 where
  pub is : asked s ≡ accepted (mark_of a.region)
  pub tape : a.book.tape.now ≡ tape_in s
  pub bytes : a.book.bytes.now ≡ bytes_in s

abbrev pub Read : List ℕ → Result Listed Refusal → Type 0
Read s r = MatchResult r (λ a. Shown s a) (λ e. asked s ≡ refused (number e))

number_none : {A : Type 0} {a : A} {x : Checked A} → x ≡ accepted a → number_of x ≡ 0
unfolding number_of
number_none e = ap number_of e

-- the same of a stream that begins with what was read
module _ (x s : List ℕ) (e : take 196629 s ≡ x) where
  pub refused_from : {n : ℕ} → asked x ≡ refused n → asked s ≡ refused n
  refused_from h = sym (read_asked x s e) ∙ h

  pub shown_from : {a : Listed} → Shown x a → Shown s a
  shown_from h =
      let whole = read_stream x s e (number_none h.is) in
      record { is = sym (read_asked x s e) ∙ h.is; tape = h.tape ∙ ap tape_in whole; bytes = h.bytes ∙ ap bytes_in whole }
