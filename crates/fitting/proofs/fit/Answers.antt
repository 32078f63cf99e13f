use Rattle.refusal.specs.Refusal.{handed_on}
use Rattle.fitting.specs.Stages.{book_refused, stored_fits}
use Rattle.fitting.proofs.fit.Goals as goal

pub returns-in_err-opened : goal.returns-in_err-opened
returns-in_err-opened c =
    rw (handed_on _ c.from_residual.ensures.1) (book_refused _ _ _ _ c.in_err-opened.ensures)

pub returns : goal.returns
returns c =
    stored_fits c.in_ok-opened.ensures _ _ _ c.fit_opened.ensures
