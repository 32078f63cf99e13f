-- A signed 64-bit number taken apart by its sign: what `amount_of` asks.
use Prim.Native.Nat.{ℕ, zero, suc, ◌<◌, ◌^◌}
use mathlib.Core.Path.{◌≡◌, refl, sym, ap, ◌∙◌, subst}
use mathlib.Core.Bool.{true, false, true≢false}
use native.Mathlib.Omega.{arith}
use lib.Dec.{ltb}
use borrow.Author.Tests.{ltb-true}
use lib.IntN.{ℤ, pos, negsuc, ◌+ℤ◌, ◌-ℤ◌, suc_ℤ, +ℤ_one, +ℤ_idl}
use lib.Signed.{lt_z}
use mir.Syntax.{w64}
use mir.Val.{SFits, to_z, of_z}
use mir.ValLaws.{to_z-of_z}

-- a number read back from its bits
back : ℤ → ℤ
back z = to_z w64 (of_z w64 z)

suc_fits : (n : ℕ) → n < 2 ^ 63 → SFits w64 (suc_ℤ (negsuc n))
suc_fits zero h = record { sfits = omega arith }
suc_fits (suc n) h = record { sfits = omega arith }

neg_suc : (n : ℕ) → pos 0 -ℤ suc_ℤ (negsuc n) ≡ pos n
neg_suc zero = +ℤ_idl (pos 0)
neg_suc (suc n) = +ℤ_idl (pos (suc n))

-- a number that the test says is below 0: the steps of -(z + 1), and what they come to
pub record Negative (z : ℤ) : Type 0 where
  pub n : ℕ
  pub is : z ≡ negsuc n
  pub small : n < 2 ^ 63
  pub sum_fits : SFits w64 (to_z w64 (of_z w64 z) +ℤ pos 1)
  pub neg_fits : SFits w64 (pos 0 -ℤ to_z w64 (of_z w64 (to_z w64 (of_z w64 z) +ℤ pos 1)))
  pub value : to_z w64 (of_z w64 (pos 0 -ℤ to_z w64 (of_z w64 (to_z w64 (of_z w64 z) +ℤ pos 1)))) ≡ pos n

pub test_neg : (z : ℤ) → SFits w64 z → lt_z (to_z w64 (of_z w64 z)) (pos 0) ≡ true → Negative z
unfolding back
test_neg (pos n) f t =
    let e : ltb n 0 ≡ true = sym (ap (λ (x : ℤ). lt_z x (pos 0)) (to_z-of_z w64 (pos n) f)) ∙ t in
    absurd (omega (arith, ltb-true n 0 e))
test_neg (negsuc n) f t =
    let e1 : back (negsuc n) +ℤ pos 1 ≡ suc_ℤ (negsuc n) = ap (λ (x : ℤ). x +ℤ pos 1) (to_z-of_z w64 (negsuc n) f) ∙ +ℤ_one (negsuc n) in
    let f1 : SFits w64 (suc_ℤ (negsuc n)) = suc_fits n f.sfits in
    let e2 : back (back (negsuc n) +ℤ pos 1) ≡ suc_ℤ (negsuc n) = ap back e1 ∙ to_z-of_z w64 (suc_ℤ (negsuc n)) f1 in
    let e3 : pos 0 -ℤ back (back (negsuc n) +ℤ pos 1) ≡ pos n = ap (λ (x : ℤ). pos 0 -ℤ x) e2 ∙ neg_suc n in
    let f3 : SFits w64 (pos n) = record { sfits = f.sfits } in
    record {
      n = n;
      is = refl;
      small = f.sfits;
      sum_fits = subst (λ (x : ℤ). SFits w64 x) (sym e1) f1;
      neg_fits = subst (λ (x : ℤ). SFits w64 x) (sym e3) f3;
      value = ap back e3 ∙ to_z-of_z w64 (pos n) f3;
    }

-- a number that the test says is not below 0
pub record Natural (z : ℤ) : Type 0 where
  pub n : ℕ
  pub is : z ≡ pos n
  pub small : n < 2 ^ 63
  pub value : to_z w64 (of_z w64 z) ≡ pos n

pub test_pos : (z : ℤ) → SFits w64 z → lt_z (to_z w64 (of_z w64 z)) (pos 0) ≡ false → Natural z
test_pos (pos n) f t = record { n = n; is = refl; small = f.sfits; value = to_z-of_z w64 (pos n) f }
test_pos (negsuc n) f t = absurd (true≢false (sym (ap (λ (x : ℤ). lt_z x (pos 0)) (to_z-of_z w64 (negsuc n) f)) ∙ t))
