use Rattle.refusal.specs.Refusal.{handed_on}
use Rattle.tape.specs.Held.{held_layers}
use Rattle.tape.specs.Opened.{book_held}
use Rattle.lookup.specs.Asked.{ask_refused}
use Rattle.lookup.specs.Ranges.{segments_both, segments_said}
use Rattle.lookup.proofs.lookup_segments.Goals as goal

pub returns-in_err-book : goal.returns-in_err-book
returns-in_err-book c =
    rw (handed_on _ c.from_residual.ensures.1) (segments_both _ _ _ _ (ask_refused _ _ c.in_err-book.ensures _))

pub segments_in-requires : goal.segments_in-requires
segments_in-requires c =
    (held_layers (book_held c.in_ok-book.ensures)).1

pub returns : goal.returns
returns c =
    segments_both _ _ _ _ (segments_said (book_held c.in_ok-book.ensures) _ _ c.segments_in.ensures)
