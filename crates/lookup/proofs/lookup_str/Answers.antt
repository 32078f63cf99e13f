use Rattle.std.proofs.Common.{refl, rules}
use Rattle.refusal.specs.Refusal.{handed_on}
use Rattle.tape.specs.Held.{held_readable}
use Rattle.tape.specs.Opened.{book_held}
use Rattle.lookup.specs.Asked.{ask_refused}
use Rattle.lookup.specs.Strings.{str_said, str_both}
use Rattle.lookup.proofs.lookup_str.Goals as goal

pub returns-in_err-book : goal.returns-in_err-book
returns-in_err-book c =
    rw (handed_on _ c.from_residual.ensures.1) (str_both _ _ _ (ask_refused _ _ c.in_err-book.ensures _))

pub str_in-requires : goal.str_in-requires
str_in-requires c =
    record { readable = held_readable (book_held c.in_ok-book.ensures) (search rules); from_bound = search rules }

pub returns : goal.returns
returns c =
    str_both _ _ _ (str_said (book_held c.in_ok-book.ensures) _ refl c.str_in.ensures)
