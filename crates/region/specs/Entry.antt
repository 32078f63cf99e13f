-- `choose_region` on any tape and bytes, for each of its returns.
use Rattle.std.specs.Prelude.{◌≡◌, ℕ, List}
use Rattle.std.proofs.Math.Path.{refl, sym}
use Rattle.std.proofs.Common.{ap₂, ◌∙◌}
use Rattle.model.specs.Offset.{Span}
use Rattle.model.specs.Refusal.{Checked, Checked.refused, ◌>>=◌}
use Rattle.model.specs.WellFormed.{check_book}
use Rattle.model.specs.Region.{Edit, chosen_region, choose_region}
use Rattle.tape.specs.declared.book.Book.{Book}
use Rattle.tape.specs.Opened.{BookOf}
use Rattle.tape.specs.StringBytes.{book_of}

pub choose_refused : (t d : List ℕ) (e : Edit) {n : ℕ} → check_book t d ≡ refused n → refused n ≡ choose_region t d e
unfolding choose_region ◌>>=◌
choose_refused t d e q = rw q refl

pub choose_opened : {t d : List ℕ} {b : Book} → BookOf t d b → (e : Edit) {r : Checked Span} → r ≡ chosen_region (book_of b) e → r ≡ choose_region t d e
unfolding choose_region ◌>>=◌
choose_opened {b = b} h e f = f ∙ sym (rw b.held.accepted.book refl) ∙ ap₂ (λ (x y : List ℕ). choose_region x y e) h.tape h.bytes
