use Rattle.std.proofs.Common.{arith}
use Rattle.wire.specs.Loops.{sum_to, sum_more}
use Rattle.places.specs.Runs.{length_at, lengths_all}
use Rattle.places.proofs.strings_length.Goals as goal

pub loop-i-init : goal.loop-i-init
unfolding sum_to
loop-i-init c =
    omega arith

pub loop-i-preserved : goal.loop-i-preserved
loop-i-preserved c =
    omega (arith, c.loop-i.invariant, c.u32_or_zero-n.ensures, c.min-total.ensures, sum_more (length_at c.args.tape.now c.args.at) c.loop-i.i)

pub returns : goal.returns
returns c =
    lengths_all _ _ _ _ _ _ (omega arith) c.loop-i.invariant
