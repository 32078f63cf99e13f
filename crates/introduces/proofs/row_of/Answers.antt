use Rattle.std.proofs.Common.{◌≡◌, refl, arith, min}
use Rattle.dependency.specs.Rows.{rowed_start}
use Rattle.introduces.proofs.row_of.Goals as goal

pub loop-i-init : goal.loop-i-init
loop-i-init c = (refl, omega arith, rowed_start _ _ _ _ _)

pub returns : goal.returns
returns c =
    let ns = c.args.nodes.now in
    let e : min ns.run.count c.loop-i.i ≡ ns.run.count = omega arith in rw e at c.loop-i.invariant.2
