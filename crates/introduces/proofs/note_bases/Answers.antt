use Rattle.std.proofs.Common.{◌≡◌, arith}
use Rattle.dependency.specs.Noted.{noted_none, noted_next}
use Rattle.introduces.proofs.note_bases.Goals as goal

pub loop-i-init : goal.loop-i-init
loop-i-init c = noted_none _ _ _ _

pub loop-i-preserved : goal.loop-i-preserved
loop-i-preserved c = noted_next _ _ _ _ _ c.loop-i.invariant c.note_ruby.ensures

pub returns : goal.returns
returns c = let e : c.loop-i.i ≡ c.args.nodes.now.run.count = omega arith in rw e at c.loop-i.invariant
