use Rattle.chars.specs.Chars.{utf8_end}
use Rattle.utf8.specs.Skips.{skipped_more, skipped_none, step_some}
use mathlib.Core.Path.{sym, ◌∙◌}
use native.Mathlib.Omega.{arith}
use Rattle.utf8.proofs.is_utf8.Goals as goal

pub loop-at-init : goal.loop-at-init
loop-at-init c =
    skipped_none _ _ (omega arith)

pub ascii_blocks-requires : goal.ascii_blocks-requires
ascii_blocks-requires c =
    c.loop-at.invariant.fits

pub plain_end-at-requires : goal.plain_end-at-requires
plain_end-at-requires c =
    c.ascii_blocks.ensures.fits

pub returns-then-s-at : goal.returns-then-s-at
returns-then-s-at c =
    sym (c.loop-at.invariant.rest ∙ c.ascii_blocks.ensures.rest ∙ c.plain_end-at.ensures.rest ∙ utf8_end _ _ c.if-s-at.true)

pub overflow_add-at : goal.overflow_add-at
overflow_add-at c =
    omega (arith, (step_some c.args.s.now c.plain_end-at.result c.slow_len.ensures c.in-Some.is).1.fits)

pub loop-at-smaller : goal.loop-at-smaller
loop-at-smaller c =
    let next = step_some c.args.s.now c.plain_end-at.result c.slow_len.ensures c.in-Some.is in
    omega (arith, next.0, next.1.fits, c.ascii_blocks.ensures.order, c.plain_end-at.ensures.order)

pub loop-at-preserved : goal.loop-at-preserved
loop-at-preserved c =
    skipped_more (skipped_more (skipped_more c.loop-at.invariant c.ascii_blocks.ensures) c.plain_end-at.ensures) (step_some c.args.s.now c.plain_end-at.result c.slow_len.ensures c.in-Some.is).1

pub returns : goal.returns
returns c =
    sym (c.loop-at.invariant.rest ∙ utf8_end _ _ c.loop-at-test.false)
