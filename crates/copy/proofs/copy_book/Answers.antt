use Rattle.std.proofs.Common.{arith}
use Rattle.copy.specs.Copying.{copies, copied_refused, copied_there}
use Rattle.copy.proofs.copy_book.Goals as goal

pub copy_padded-requires : goal.copy_padded-requires
copy_padded-requires c =
    (copies _ _ _ _ (record { byte = λ i h. omega (arith, c.type_inv.tape i) }) c.in-Ok.ensures).tape_fits

pub copy_padded-requires-in-Ok : goal.copy_padded-requires-in-Ok
copy_padded-requires-in-Ok c =
    (copies _ _ _ _ (record { byte = λ i h. omega (arith, c.type_inv.tape i) }) c.in-Ok.ensures).bytes_fit

pub returns-in-Ok : goal.returns-in-Ok
returns-in-Ok c =
    copied_there _ _ _ _ (copies _ _ _ _ (record { byte = λ i h. omega (arith, c.type_inv.tape i) }) c.in-Ok.ensures) _ _ c.copy_padded.ensures c.copy_padded-in-Ok.ensures

pub returns-in-Err : goal.returns-in-Err
returns-in-Err c =
    copied_refused _ _ _ _ c.in-Err.ensures _ _ c.zero_from.ensures c.zero_from-in-Err.ensures
