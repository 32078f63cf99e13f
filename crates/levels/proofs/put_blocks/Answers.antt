use Rattle.std.proofs.Common.{◌≡◌, refl, arith, length-set}
use Rattle.levels.specs.Table.{filled_none, filled_more, filled_all}
use Rattle.levels.proofs.put_blocks.Goals as goal

pub loop-k-init : goal.loop-k-init
loop-k-init g c =
    (refl, λ P b. filled_none _ _ _ c.requires.table_len)

pub returns-then-total-k : goal.returns-then-total-k
returns-then-total-k g c =
    λ P b. filled_all (c.loop-k.invariant.1 P b) c.if-total-k.true

pub loop-k-preserved : goal.loop-k-preserved
loop-k-preserved g c =
    (simp length-set c.loop-k.invariant.0, λ P b. filled_more (c.loop-k.invariant.1 P b) c.loop-k-test.true _ (c.block_of.ensures P b))

pub returns : goal.returns
returns g c = λ P b.
    let e : c.loop-k.k ≡ 65536 = omega arith in
    rw e at (c.loop-k.invariant.1 P b)
