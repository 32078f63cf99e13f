use Rattle.span.specs.Order.{below, at_least}
use Rattle.bounds.specs.Search.{node_none, node_there, node_past}
use Rattle.std.proofs.Common.{arith, ◌∙◌}
use Rattle.bounds.proofs.node_at_source.Goals as goal

pub returns-in_err-i : goal.returns-in_err-i
returns-in_err-i c =
    c.from_residual.ensures ∙ node_none c.args.tape.now c.args.nodes.at c.starts_by.ensures (omega (arith, c.in_err-i.ensures))

pub returns-then-lt : goal.returns-then-lt
returns-then-lt c =
    node_there c.args.tape.now c.args.nodes.at c.starts_by.ensures _ (omega (arith, c.in_ok-i.ensures)) _ c.node_end.ensures (below _ _ c.lt.ensures c.if-lt.true)

pub returns-else-lt : goal.returns-else-lt
returns-else-lt c =
    node_past c.args.tape.now c.args.nodes.at c.starts_by.ensures c.in_ok-i.i (omega (arith, c.in_ok-i.ensures)) _ c.node_end.ensures (at_least _ _ c.lt.ensures c.if-lt.false)
