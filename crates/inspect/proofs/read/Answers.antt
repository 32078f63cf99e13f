use Rattle.std.proofs.Common.{refl, ◌∙◌, arith}
use Rattle.refusal.specs.Refusal.{handed_on}
use Rattle.inspect.specs.Answers.{headed, behind_few, edit_there, head_refused, book_refused, book_shown, edit_refused, edited_refused, region_refused, region_shown, read_short}
use Rattle.inspect.specs.Read.{refused_from, shown_from}
use Rattle.inspect.proofs.read.Goals as goal

pub returns-in_err-check_head : goal.returns-in_err-check_head
returns-in_err-check_head c =
    λ s e. rw (handed_on _ c.from_residual.ensures.1) (refused_from _ s e (head_refused _ _ c.in_err-check_head.ensures))

pub returns-in_err-book : goal.returns-in_err-book
returns-in_err-book c =
    λ s e.
    rw (handed_on _ c.from_residual-in_err-book.ensures.1)
    (refused_from _ s e (book_refused _ c.in_ok-check_head.ensures c.tape_in-tape.ensures c.bytes_in-bytes.ensures c.behind-at.ensures c.if-input-at.true c.in_err-book.ensures))

pub invariant_of-result : goal.invariant_of-result
invariant_of-result c = record { short = read_short _ (headed _ c.in_ok-check_head.ensures refl) c.bytes_in-bytes.ensures c.in_ok-book.ensures.bytes }

pub returns-then-input-at : goal.returns-then-input-at
returns-then-input-at c =
    λ s e.
    let h = c.in_ok-book.ensures in
    shown_from _ s e (record {
      is = book_shown _ c.in_ok-check_head.ensures c.tape_in-tape.ensures c.bytes_in-bytes.ensures c.behind-at.ensures c.if-input-at.true h;
      tape = h.tape ∙ c.tape_in-tape.ensures;
      bytes = h.bytes ∙ c.bytes_in-bytes.ensures;
    })

pub check_edit-requires : goal.check_edit-requires
check_edit-requires c =
    omega (arith, c.behind-at.ensures, behind_few (headed _ c.in_ok-check_head.ensures refl))

pub returns-in_err-check_edit : goal.returns-in_err-check_edit
returns-in_err-check_edit c =
    λ s e.
    rw (handed_on _ c.from_residual-in_err-check_edit.ensures.1)
    (refused_from _ s e (edit_refused _ c.in_ok-check_head.ensures c.tape_in-tape.ensures c.bytes_in-bytes.ensures c.behind-at.ensures c.if-input-at.false _ c.in_err-check_edit.ensures))

pub returns-in_err-book-2 : goal.returns-in_err-book-2
returns-in_err-book-2 c =
    λ s e.
    rw (handed_on _ c.from_residual-in_err-book-2.ensures.1)
    (refused_from _ s e (edited_refused _ c.in_ok-check_head.ensures c.tape_in-tape.ensures c.bytes_in-bytes.ensures c.behind-at.ensures c.if-input-at.false c.in_ok-check_edit.ensures c.in_err-book-2.ensures))

pub edit_in-requires : goal.edit_in-requires
edit_in-requires c = (
  omega (arith, c.behind-at.ensures, behind_few (headed _ c.in_ok-check_head.ensures refl)),
  (edit_there _ _ c.in_ok-check_edit.ensures refl).0,
)

pub returns-in_err-region : goal.returns-in_err-region
returns-in_err-region c =
    λ s e.
    rw (handed_on _ c.from_residual-in_err-region.ensures.1)
    (refused_from _ s e (region_refused _ c.in_ok-check_head.ensures c.tape_in-tape.ensures c.bytes_in-bytes.ensures c.behind-at.ensures c.if-input-at.false c.in_ok-check_edit.ensures
    c.in_ok-book-2.ensures c.edit_in.ensures c.in_err-region.ensures))

pub invariant_of-result-2 : goal.invariant_of-result-2
invariant_of-result-2 c = record { short = read_short _ (headed _ c.in_ok-check_head.ensures refl) c.bytes_in-bytes.ensures c.in_ok-book-2.ensures.bytes }

pub returns : goal.returns
returns c =
    λ s e.
    let h = c.in_ok-book-2.ensures in
    shown_from _ s e (record {
      is = region_shown _ c.in_ok-check_head.ensures c.tape_in-tape.ensures c.bytes_in-bytes.ensures c.behind-at.ensures c.if-input-at.false c.in_ok-check_edit.ensures
          h c.edit_in.ensures c.in_ok-region.ensures;
      tape = h.tape ∙ c.tape_in-tape.ensures;
      bytes = h.bytes ∙ c.bytes_in-bytes.ensures;
    })
