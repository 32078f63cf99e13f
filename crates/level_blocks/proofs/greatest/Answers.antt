use Rattle.std.proofs.Common.{◌≡◌, arith}
use Rattle.level_blocks.specs.Blocks.{greatest_none, greatest_more}
use Rattle.level_blocks.proofs.greatest.Goals as goal

pub loop-i-init : goal.loop-i-init
loop-i-init c = greatest_none _ _ _

pub loop-i-preserved : goal.loop-i-preserved
loop-i-preserved c = let e = c.max-m.ensures in greatest_more c.loop-i.invariant (grind arith) (grind arith)

pub returns : goal.returns
returns c = let e : c.loop-i.i ≡ 16 = omega arith in rw e at c.loop-i.invariant
