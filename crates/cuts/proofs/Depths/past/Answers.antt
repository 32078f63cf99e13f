use Rattle.std.proofs.Common.{◌∙◌}
use Rattle.cuts.specs.Depths.{block_behind, warichu_behind}
use Rattle.cuts.proofs.Depths.past.Goals as goal

pub returns-clause-block_depth : goal.returns-clause-block_depth
returns-clause-block_depth c =
    c.behind.ensures ∙ rw c.block_effect.ensures (block_behind _ _)

pub returns-clause-warichu_depth : goal.returns-clause-warichu_depth
returns-clause-warichu_depth c =
    c.behind-2.ensures ∙ rw c.warichu_effect.ensures (warichu_behind _ _)
