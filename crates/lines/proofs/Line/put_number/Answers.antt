use Rattle.std.proofs.Common.{ap, ◌++◌, ◌∙◌, List, ℕ, arith}
use Rattle.lines.specs.Decimal.{decimal_digits, digits_few}
use Rattle.lines.specs.Put.{put_both, put_as}
use Rattle.lines.specs.Text.{numbered}
use Rattle.lines.proofs.Line.put_number.Goals as goal

pub returns : goal.returns
unfolding numbered
returns c =
    let few = digits_few _ _ c.decimal-k.ensures.len (omega (arith, c.ranges.n)) in
    put_as (put_both c.put_text.ensures c.put_text-2.ensures) (omega (arith, few, c.decimal-k.ensures.in_bounds.1)) (ap (λ (x : List ℕ). c.args.label.now ++ x) (c.decimal-k.ensures.digits ∙ decimal_digits _ _ c.decimal-k.ensures.len))
