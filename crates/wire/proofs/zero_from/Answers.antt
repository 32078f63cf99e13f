use Rattle.std.proofs.Common.{ℕ, ◌-◌, drop, length, arith, ◌∙◌, ap, length-drop}
use Rattle.std.proofs.Math.Seq.{length-take-le}
use Rattle.std.proofs.lemmas.List.{length-replicate}
use Rattle.model.specs.Bytes.{zeros}
use Rattle.wire.proofs.Part.{written}
use Rattle.wire.proofs.zero_from.Goals as goal

pub returns : goal.returns
returns c =
    let d = c.args.out.now in
    let e = length-take-le (length d - c.args.at) (drop c.args.at d) (omega (arith, length-drop c.args.at d)) in
    written _ _ _ _ _ (c.fill.ensures.after (λ y e. e) ∙ ap (λ (k : ℕ). zeros k) e) (length-replicate _ 0) (omega arith)
