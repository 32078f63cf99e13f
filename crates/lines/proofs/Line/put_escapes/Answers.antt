use Rattle.std.proofs.Common.{ap, arith, take_all}
use mathlib.Core.List.{flatten}
use Rattle.lines.specs.Put.{put_none, put_both, put_as}
use Rattle.lines.specs.Quoted.{escapes, escapes_more}
use Rattle.lines.proofs.Line.put_escapes.Goals as goal

pub loop-b-init : goal.loop-b-init
unfolding escapes flatten
loop-b-init c = put_none

pub put_escaped-requires : goal.put_escaped-requires
put_escaped-requires c = omega (arith, c.requires, c.loop-b.invariant.longer, c.loop-b.invariant.as_large)

pub loop-b-preserved : goal.loop-b-preserved
loop-b-preserved c = put_as (put_both c.loop-b.invariant c.put_escaped.ensures) (omega arith) (escapes_more _ _ c.loop-b-test.true)

pub returns : goal.returns
returns c = put_as c.loop-b.invariant (omega arith) (ap escapes (take_all c.loop-b.b-index c.args.s.now c.loop-b-test.false))
