use Rattle.std.proofs.Common.{sym, ap, ◌∙◌}
use Rattle.orders.specs.Orders.{orders_told}
use Rattle.answers.specs.Answers.{orders_answer, orders_back}
use Rattle.exports.proofs.aozora_merge_both_orders.Goals as goal

pub shape_of-tape1 : goal.shape_of-tape1
shape_of-tape1 c =
    c.merge_both_orders.auto.tape1

pub shape_of-bytes1 : goal.shape_of-bytes1
shape_of-bytes1 c =
    c.merge_both_orders.auto.bytes1

pub shape_of-tape2 : goal.shape_of-tape2
shape_of-tape2 c =
    c.merge_both_orders.auto.tape2

pub returns : goal.returns
returns c =
    let back = orders_back _ c.from.ensures in
    (orders_told back c.merge_both_orders.ensures, c.from.ensures ∙ ap orders_answer (sym back))
