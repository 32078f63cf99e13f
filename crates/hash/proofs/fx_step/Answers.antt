use Rattle.std.proofs.Common.{◌≡◌, ℕ, ◌+◌, ◌*◌, ◌/◌, ◌%◌, ◌^◌, ◌<◌, sym, ap, ◌∙◌, arith}
use Rattle.std.specs.Prelude.{bit_or, bit_xor}
use lib.Bits.{or_shifted}
use Rattle.model.specs.Limits.{fx_prime}
use Rattle.model.specs.Intern.{rotate_left, fx_step}
use Rattle.hash.proofs.fx_step.Goals as goal

high : (h : ℕ) → (h * 2 ^ 5) % 2 ^ 64 ≡ h % 2 ^ 59 * 2 ^ 5
high h = omega arith

-- the bits that the rotation brings round do not meet the others: `|` of both is their sum
rotated : (h : ℕ) → h < 2 ^ 64 → bit_or ((h * 2 ^ 5) % 2 ^ 64) (h / 2 ^ 59) ≡ rotate_left 5 h
unfolding rotate_left
rotated h b =
    let small : h / 2 ^ 59 < 2 ^ 5 = omega arith in
    ap (λ (k : ℕ). bit_or k (h / 2 ^ 59)) (high h)
    ∙ or_shifted (h % 2 ^ 59) 5 (h / 2 ^ 59) small
    ∙ ap (λ (k : ℕ). k + h / 2 ^ 59) (sym (high h))

pub returns : goal.returns
unfolding fx_step
returns c =
    c.mul_prime.ensures
    ∙ ap (λ (k : ℕ). (bit_xor c.rotate_left.result k * fx_prime) % 2 ^ 64) c.from.ensures
    ∙ ap (λ (k : ℕ). (bit_xor k c.args.b * fx_prime) % 2 ^ 64) (c.rotate_left.ensures ∙ rotated c.args.h c.ranges.h.fits)
