use Rattle.balanced_region.specs.Unmatched.{gap_first_node, gap_behind}
use Rattle.balanced_region.proofs.gap_from.Goals as goal

pub returns-then-i-eq0 : goal.returns-then-i-eq0
returns-then-i-eq0 c =
    gap_first_node _ _ _ c.if-i-eq0.true

pub returns : goal.returns
returns c =
    gap_behind _ _ _ c.if-i-eq0.false _ c.node_end.ensures
