use Rattle.span.specs.Order.{below, at_least}
use Rattle.cuts.specs.Pairs.{reach_before, reach_behind}
use Rattle.cuts.proofs.reach_of.Goals as goal

pub returns-then-lt : goal.returns-then-lt
returns-then-lt c = reach_before _ _ _ (below _ _ c.lt.ensures c.if-lt.true)

pub returns-else-lt : goal.returns-else-lt
returns-else-lt c = reach_behind _ _ _ (at_least _ _ c.lt.ensures c.if-lt.false)
