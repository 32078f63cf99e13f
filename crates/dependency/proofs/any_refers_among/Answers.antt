use Rattle.std.proofs.Common.{◌≡◌, sym, arith}
use Rattle.wire.specs.Loops.{missed_none, any_found, any_missed}
use Rattle.dependency.specs.Parts.{noted_start}
use Rattle.dependency.specs.Rows.{yes_told}
use Rattle.dependency.proofs.any_refers_among.Goals as goal

pub loop-i-init : goal.loop-i-init
loop-i-init c = (noted_start _ _ _ _ _, missed_none _, omega arith)

pub returns-in-Yes : goal.returns-in-Yes
returns-in-Yes c = sym (any_found _ _ c.loop-i.i c.loop-i-test.true (sym (yes_told c.in-Yes.ensures)))

pub returns : goal.returns
returns c =
    let e : c.loop-i.i ≡ c.args.nodes.now.run.count = omega arith in
    sym (any_missed _ _ (rw e at c.loop-i.invariant.1))
