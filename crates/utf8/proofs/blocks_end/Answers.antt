use Rattle.utf8.specs.Blocks.{blocks_none, blocks_more, len_least, len_most}
use native.Mathlib.Omega.{arith}
use Rattle.utf8.proofs.blocks_end.Goals as goal

pub loop-i-init : goal.loop-i-init
loop-i-init c =
    blocks_none _ _ c.requires.0 c.requires.1

pub overflow_sub-s : goal.overflow_sub-s
overflow_sub-s c =
    omega (arith, c.loop-i.invariant.skipped.fits)

pub odd_block-requires : goal.odd_block-requires
odd_block-requires c =
    omega (arith, c.loop-i-test.true, c.loop-i.invariant.skipped.fits)

pub returns-then-odd_block : goal.returns-then-odd_block
returns-then-odd_block c =
    c.loop-i.invariant.skipped

pub overflow_add-i : goal.overflow_add-i
overflow_add-i c =
    omega (arith, c.loop-i-test.true, c.loop-i.invariant.skipped.fits)

pub bounds-s-i : goal.bounds-s-i
bounds-s-i c =
    omega (arith, c.loop-i-test.true, c.loop-i.invariant.skipped.fits)

pub overflow_add-i-in-loop-i : goal.overflow_add-i-in-loop-i
overflow_add-i-in-loop-i c =
    omega (arith, c.loop-i-test.true, c.loop-i.invariant.skipped.fits)

pub bounds-s-i-in-loop-i : goal.bounds-s-i-in-loop-i
bounds-s-i-in-loop-i c =
    omega (arith, c.loop-i-test.true, c.loop-i.invariant.skipped.fits)

pub block_len-i-requires : goal.block_len-i-requires
block_len-i-requires c =
    omega (arith, c.loop-i-test.true, c.loop-i.invariant.skipped.fits)

pub overflow_add-i-in-loop-i-2 : goal.overflow_add-i-in-loop-i-2
overflow_add-i-in-loop-i-2 c =
    omega (arith, c.loop-i-test.true, c.loop-i.invariant.skipped.fits, len_most _ _ _ c.block_len-i.ensures)

pub loop-i-smaller : goal.loop-i-smaller
loop-i-smaller c =
    omega (arith, c.loop-i-test.true, len_least _ _ _ c.block_len-i.ensures)

pub loop-i-preserved : goal.loop-i-preserved
loop-i-preserved c =
    blocks_more c.loop-i.invariant (omega (arith, c.loop-i-test.true, c.loop-i.invariant.skipped.fits)) c.odd_block.ensures c.if-odd_block.false c.block_len-i.ensures

pub returns : goal.returns
returns c =
    c.loop-i.invariant.skipped
