use Rattle.refusal.specs.Refusal.{handed_on}
use Rattle.tape.specs.Held.{held_places}
use Rattle.tape.specs.Placed.{fit_diagnostics}
use Rattle.tape.specs.Opened.{book_held}
use Rattle.lookup.specs.Asked.{ask_refused, allowed_said}
use Rattle.lookup.proofs.diagnostics_allow_incremental.Goals as goal

pub returns-in_err-diagnostics : goal.returns-in_err-diagnostics
returns-in_err-diagnostics c =
    rw (handed_on _ c.from_residual.ensures.1) (ask_refused _ _ c.in_err-diagnostics.ensures _)

pub diagnostics_allow_incremental-requires : goal.diagnostics_allow_incremental-requires
diagnostics_allow_incremental-requires c =
    fit_diagnostics (held_places (book_held c.in_ok-diagnostics.ensures))

pub returns : goal.returns
returns c =
    allowed_said (book_held c.in_ok-diagnostics.ensures) c.diagnostics_allow_incremental.ensures
