use Rattle.std.proofs.Common.{arith}
use Rattle.cuts.specs.Window.{rising_none, rising_more}
use Rattle.cuts.proofs.run_up.Goals as goal

pub loop-slot-init : goal.loop-slot-init
loop-slot-init c = rising_none _

pub loop-slot-preserved : goal.loop-slot-preserved
loop-slot-preserved c = rising_more c.loop-slot.invariant (omega arith) _ c.max-far.ensures
