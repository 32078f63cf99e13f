use Rattle.refusal.specs.Refusal.{handed_on}
use Rattle.tape.specs.Held.{held_layers}
use Rattle.tape.specs.Opened.{book_held}
use Rattle.lookup.specs.Asked.{ask_refused}
use Rattle.lookup.specs.Ranges.{contents_both, contents_said}
use Rattle.lookup.proofs.lookup_contents.Goals as goal

pub returns-in_err-book : goal.returns-in_err-book
returns-in_err-book c =
    rw (handed_on _ c.from_residual.ensures.1) (contents_both _ _ _ _ (ask_refused _ _ c.in_err-book.ensures _))

pub contents_in-requires : goal.contents_in-requires
contents_in-requires c =
    (held_layers (book_held c.in_ok-book.ensures)).1

pub returns : goal.returns
returns c =
    contents_both _ _ _ _ (contents_said (book_held c.in_ok-book.ensures) _ _ c.contents_in.ensures)
