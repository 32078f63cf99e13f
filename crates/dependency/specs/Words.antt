-- Where the lent words are used, they are not few.
use Rattle.std.specs.Prelude.{◌≡◌, ℕ, ◌≤◌, min, Bool, false, ◌&&◌, nat_lt}
use Rattle.std.proofs.Common.{sym, ap, ◌∙◌, arith, ltb-false}
use Rattle.facts.specs.Truth.{by_bool}

pub lent_enough : (w n : ℕ) {x : Bool} → x ≡ (nat_lt w 65536 && nat_lt w n) → x ≡ false → min 65536 n ≤ w
lent_enough w n e f =
    by_bool (nat_lt w 65536)
    (λ t. let g = ltb-false w n (sym (ap (λ (b : Bool). b && nat_lt w n) t) ∙ sym e ∙ f) in omega (arith, g))
    (λ g. let h = ltb-false w 65536 g in omega (arith, h))
