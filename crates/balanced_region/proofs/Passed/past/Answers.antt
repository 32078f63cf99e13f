use mathlib.Core.Path.{refl}
use Rattle.balanced_region.specs.Unmatched.{depths_past}
use Rattle.balanced_region.proofs.Passed.past.Goals as goal

pub returns : goal.returns
unfolding depths_past
returns c =
    rw (← c.past.ensures.block_depth, ← c.past.ensures.warichu_depth, ← c.unmatched_past.ensures) refl
