use Rattle.std.proofs.Common.{rules}
use Rattle.cuts.specs.Pairs.{reach_none, reach_more}
use mathlib.Core.Path.{refl}
use native.Mathlib.Omega.{arith}
use Rattle.cuts.proofs.Source.reach.Goals as goal

pub loop-i-init : goal.loop-i-init
loop-i-init c =
    reach_none _ _ _

pub loop-i-preserved : goal.loop-i-preserved
loop-i-preserved c =
    reach_more _ _ _ _ _ c.loop-i.invariant (omega arith) _ refl (omega arith) _ _ c.pair_start.ensures c.pair_end.ensures _ c.reach_of.ensures _ (search rules)
