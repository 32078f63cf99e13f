use Rattle.std.proofs.Common.{◌≡◌, arith, refl}
use Rattle.wire.specs.Loops.{any_up_to}
use Rattle.utf8.specs.Blocks.{odd_at, any_more}
use Rattle.utf8.proofs.odd_block.Goals as goal

pub loop-i-init : goal.loop-i-init
unfolding any_up_to
loop-i-init c = refl

pub loop-i-preserved : goal.loop-i-preserved
unfolding odd_at
loop-i-preserved c = any_more (odd_at c.args.s.now c.args.from) _ c.loop-i.invariant c.odd-bad.ensures

pub returns : goal.returns
returns c = let e : c.loop-i.i ≡ 64 = omega arith in rw (← e) c.loop-i.invariant
