use mathlib.Core.Path.{refl}
use Rattle.orders.specs.Orders.{tape_head, bytes_head, in_order}
use Rattle.orders.proofs.merge_in_order.Goals as goal

pub slice_bounds-merged-end : goal.slice_bounds-merged-end
slice_bounds-merged-end c =
    (tape_head c.merge-one.ensures c.taken-tape_end.ensures.0).0

pub slice_bounds-merged-end-2 : goal.slice_bounds-merged-end-2
slice_bounds-merged-end-2 c =
    (bytes_head c.merge-one.ensures c.taken-tape_end.ensures.1).0

pub returns : goal.returns
returns c =
    in_order refl c.taken-tape_end.ensures.0 c.taken-tape_end.ensures.1 c.merge-one.ensures c.merge-two.ensures
