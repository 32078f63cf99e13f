use Rattle.std.proofs.Common.{◌∙◌}
use Rattle.cuts.specs.Depths.{block_before, warichu_before}
use Rattle.cuts.proofs.Depths.before.Goals as goal

pub returns-clause-block_depth : goal.returns-clause-block_depth
returns-clause-block_depth c =
    c.before-2.ensures ∙ rw c.block_effect.ensures (block_before _ _)

pub returns-clause-warichu_depth : goal.returns-clause-warichu_depth
returns-clause-warichu_depth c =
    c.before-3.ensures ∙ rw c.warichu_effect.ensures (warichu_before _ _)
