use Rattle.refusal.specs.Refusal.{handed_on}
use Rattle.tape.specs.Numbers.{book_none}
use Rattle.tape.proofs.open_book.Goals as goal

pub returns-in_err-p : goal.returns-in_err-p
returns-in_err-p c =
    rw (handed_on _ c.from_residual.ensures.1) (book_none _ _ c.in_err-p.ensures)
