use Rattle.std.proofs.Common.{◌∙◌}
use Rattle.compare.specs.Order.{precedes_cmp}
use Rattle.compare.proofs.precedes.Goals as goal

pub returns : goal.returns
returns c = c.is_lt.ensures ∙ precedes_cmp _ _ _ c.cmp.ensures
