use Rattle.std.proofs.Common.{arith}
use Rattle.refusal.specs.Refusal.{handed_on}
use Rattle.model.specs.Merge.{room_of}
use Rattle.flatten.specs.Answer.{written_refused}
use Rattle.flatten.specs.Stages.{flatten_refused, flatten_passed, opened_bytes}
use Rattle.flatten.proofs.flatten_checked.Goals as goal

pub returns-in_err-book : goal.returns-in_err-book
returns-in_err-book c =
    rw (handed_on _ c.from_residual.ensures.1) (written_refused _ _ _ (flatten_refused _ _ _ c.in_err-book.ensures))

pub flatten_passed-requires : goal.flatten_passed-requires
flatten_passed-requires c =
    opened_bytes c.in_ok-book.ensures (record { byte = λ i h. omega (arith, c.type_inv.tape i) })

pub returns : goal.returns
returns c =
    let room = room_of c.args.out_tape.now c.args.out_bytes.now c.args.work.now in
    rw (flatten_passed c.in_ok-book.ensures room) c.flatten_passed.ensures
