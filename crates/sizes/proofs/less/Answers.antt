use Rattle.std.proofs.Common.{◌∙◌, arith}
use Rattle.sizes.specs.Capped.{less_contents, less_segments, less_exact}
use Rattle.sizes.proofs.less.Goals as goal

pub returns-in_err-checked_sub : goal.returns-in_err-checked_sub
returns-in_err-checked_sub c = c.from_residual.ensures ∙ less_contents c.args.left _ (omega (arith, c.in_err-checked_sub.ensures))

pub returns-in_err-checked_sub-2 : goal.returns-in_err-checked_sub-2
returns-in_err-checked_sub-2 c = c.from_residual-in_err-checked_sub-2.ensures ∙ less_segments c.args.left _ (omega (arith, c.in_err-checked_sub-2.ensures))

pub returns : goal.returns
returns c = less_exact c.args.left _ _ c.in_ok-checked_sub.ensures c.in_ok-checked_sub-2.ensures c.saturating_sub.ensures
