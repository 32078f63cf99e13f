use Rattle.utf8.specs.Skips.{skipped_none, skipped_more, skip_ascii}
use mathlib.Core.Path.{sym, ◌∙◌}
use native.Mathlib.Omega.{arith}
use Rattle.utf8.proofs.ascii_blocks.Goals as goal

pub loop-i-init : goal.loop-i-init
loop-i-init c =
    skipped_none _ _ c.requires

pub overflow_sub-s : goal.overflow_sub-s
overflow_sub-s c =
    c.loop-i.invariant.fits

pub sixty_four_ascii-requires : goal.sixty_four_ascii-requires
sixty_four_ascii-requires c =
    omega (arith, c.loop-i.invariant.fits, c.loop-i-test.true)

pub returns-then-not-sixty_four_ascii : goal.returns-then-not-sixty_four_ascii
returns-then-not-sixty_four_ascii c =
    c.loop-i.invariant

pub overflow_add-i : goal.overflow_add-i
overflow_add-i c =
    omega (arith, c.loop-i.invariant.fits, c.loop-i-test.true)

pub loop-i-smaller : goal.loop-i-smaller
loop-i-smaller c =
    omega (arith, c.loop-i.invariant.fits, c.loop-i-test.true)

pub loop-i-preserved : goal.loop-i-preserved
loop-i-preserved c =
    skipped_more c.loop-i.invariant (skip_ascii _ _ 64 (omega (arith, c.loop-i.invariant.fits, c.loop-i-test.true)) (sym c.sixty_four_ascii.ensures ∙ c.if-not-sixty_four_ascii.false))

pub returns : goal.returns
returns c =
    c.loop-i.invariant
