use mathlib.Core.Path.{refl}
use Rattle.orders.specs.Orders.{moved_correction, both_orders}
use Rattle.orders.proofs.merge_both_orders.Goals as goal

pub shape_of-tape1 : goal.shape_of-tape1
shape_of-tape1 c =
    c.merge_in_order-a.auto.out_tape

pub shape_of-bytes1 : goal.shape_of-bytes1
shape_of-bytes1 c =
    c.merge_in_order-a.auto.out_bytes

pub returns : goal.returns
returns c =
    let b = c.args.book.now.are_bytes in
    let e = c.args.earlier.now.reading.are_bytes in
    let l = c.args.later.now.reading.are_bytes in
    both_orders (record { tape = b.0; bytes = b.1 }) (record { tape = e.0; bytes = e.1 }) (record { tape = l.0; bytes = l.1 })
    (moved_correction _ _ _ _ _ _ c.moved.ensures c.moved-2.ensures) refl refl c.merge_in_order-a.ensures c.merge_in_order-b.ensures
