use Rattle.std.proofs.Common.{◌≡◌, sym, ◌∙◌, arith}
use Rattle.level_blocks.specs.Blocks.{risen_none, risen_more, kept_all, kept_set}
use Rattle.level_blocks.proofs.put_uppers.Goals as goal

pub loop-k-init : goal.loop-k-init
loop-k-init c = (risen_none _ c.requires, kept_all _)

pub greatest-requires : goal.greatest-requires
greatest-requires c = let e = c.loop-k.invariant.0.size in omega (arith, e)

pub bounds-table-k : goal.bounds-table-k
bounds-table-k c = let e = c.loop-k.invariant.0.size in omega (arith, e)

pub loop-k-preserved : goal.loop-k-preserved
loop-k-preserved c =
    (risen_more c.loop-k.invariant.0 (omega arith) c.loop-k-test.true _ c.greatest.ensures, kept_set c.loop-k.invariant.1 _ _ (omega arith))

pub shape_of-table : goal.shape_of-table
shape_of-table c = c.loop-k.invariant.0.size ∙ sym c.requires

pub returns : goal.returns
returns c =
    let e : c.loop-k.k ≡ 69904 = omega arith in
    (rw e at c.loop-k.invariant.0, c.loop-k.invariant.1)
