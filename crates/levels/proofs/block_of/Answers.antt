use Rattle.std.proofs.Common.{◌≡◌, ◌+◌, ◌*◌, arith}
use Rattle.levels.specs.Table.{block_none, block_more, block_end}
use Rattle.levels.proofs.block_of.Goals as goal

pub loop-i-init : goal.loop-i-init
loop-i-init g c = λ P b. block_none _ _ _ _

pub returns-then-total-i : goal.returns-then-total-i
returns-then-total-i g c = λ P b. block_end _ (c.loop-i.invariant P b) c.if-total-i.true

pub loop-i-preserved : goal.loop-i-preserved
loop-i-preserved g c = λ P b. block_more (c.loop-i.invariant P b) (b _ _ _ c.if-total-i.false c.bound-m.ensures)

pub returns : goal.returns
returns g c = λ P b.
    let e : c.loop-i.i ≡ 16 * c.args.k + 16 = omega arith in
    rw e at (c.loop-i.invariant P b)
