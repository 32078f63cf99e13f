use Rattle.utf8.specs.Skips.{skipped_more, skip_ascii, step_skipped, step_1}
use mathlib.Core.Path.{sym, ◌∙◌}
use native.Mathlib.Omega.{arith}
use Rattle.utf8.proofs.ascii_len.Goals as goal

pub returns-then-s-at-lt8 : goal.returns-then-s-at-lt8
returns-then-s-at-lt8 c =
    step_1 _ _ c.requires.0 c.requires.1

pub returns-then-not-eight_ascii : goal.returns-then-not-eight_ascii
returns-then-not-eight_ascii c =
    step_1 _ _ c.requires.0 c.requires.1

pub returns : goal.returns
returns c =
    step_skipped
    (skipped_more (skip_ascii _ _ 8 (omega (arith, c.if-s-at-lt8.false, c.requires.0)) (sym c.eight_ascii.ensures ∙ c.if-not-eight_ascii.false))
    (skipped_more c.ascii_blocks.ensures c.ascii_end.ensures))
    (omega (arith, c.ascii_blocks.ensures.order, c.ascii_end.ensures.order))
