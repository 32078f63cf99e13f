use Rattle.utf8.specs.Skips.{skipped_none}
use Rattle.utf8.specs.Blocks.{clear_before}
use mathlib.Core.Path.{◌≡◌}
use Prim.Native.Nat.{◌+◌, ◌-◌}
use native.Mathlib.Omega.{arith}
use Rattle.utf8.proofs.plain_end.Goals as goal

pub returns-then-at-lt2 : goal.returns-then-at-lt2
returns-then-at-lt2 c =
    skipped_none _ _ c.requires

pub returns-then-s-at-ge192 : goal.returns-then-s-at-ge192
returns-then-s-at-ge192 c =
    skipped_none _ _ c.requires

pub returns-then-s-at-ge224 : goal.returns-then-s-at-ge224
returns-then-s-at-ge224 c =
    skipped_none _ _ c.requires

pub blocks_end-requires : goal.blocks_end-requires
blocks_end-requires c =
    (omega arith, clear_before _ _ c.if-at-lt2.false c.if-s-at-ge192.false c.if-s-at-ge224.false)

pub overflow_add-result : goal.overflow_add-result
overflow_add-result c =
    omega (arith, c.blocks_end.ensures.fits)

pub returns : goal.returns
returns c =
    let e : c.args.at - 2 + 2 ≡ c.args.at = omega arith in rw e at c.blocks_end.ensures
