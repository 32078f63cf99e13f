use Rattle.std.proofs.Common.{arith}
use Rattle.refusal.specs.Refusal.{handed_on, map_refused, map_accepted}
use Rattle.tape.specs.Opened.{book_held}
use Rattle.copy.specs.Copying.{copy_refused, copy_no_tape, copy_no_bytes, copy_there}
use Rattle.copy.proofs.check_copy.Goals as goal

pub returns-in_err-open_book : goal.returns-in_err-open_book
returns-in_err-open_book c =
    rw (handed_on _ c.from_residual.ensures.1) (map_refused _ (copy_refused _ _ _ _ c.in_err-open_book.ensures))

pub returns-then-tape_room-tape : goal.returns-then-tape_room-tape
returns-then-tape_room-tape c =
    map_refused _ (copy_no_tape _ _ _ _ (record { byte = λ i h. omega (arith, c.type_inv.tape i) }) (book_held c.in_ok-open_book.ensures).accepted c.if-tape_room-tape.true)

pub returns-then-bytes_room-bytes : goal.returns-then-bytes_room-bytes
returns-then-bytes_room-bytes c =
    map_refused _ (copy_no_bytes _ _ _ _ (record { byte = λ i h. omega (arith, c.type_inv.tape i) }) (book_held c.in_ok-open_book.ensures).accepted c.if-bytes_room-bytes.true)

pub returns : goal.returns
returns c =
    map_accepted _ (copy_there _ _ _ _ (record { byte = λ i h. omega (arith, c.type_inv.tape i) }) (book_held c.in_ok-open_book.ensures).accepted c.if-tape_room-tape.false c.if-bytes_room-bytes.false)
