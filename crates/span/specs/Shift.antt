-- Laws of shifts, by the amount's sign: one for each way that the code returns.
use Rattle.std.specs.Prelude.{ℕ, zero, suc, ◌+◌, ◌-◌, ◌≤◌, ◌<◌, ◌^◌, min, ◌≡◌, Bool, true, false, cond, leb, pos, negsuc, ◌-ℤ◌}
use Rattle.std.proofs.Common.{refl, ◌∙◌, arith, add-zero, leb-true}
use Rattle.std.proofs.Math.Bool.{and-false}
use Rattle.std.proofs.Math.Option.{none, some}
use borrow.Author.Tests.{lt-ltb, le-ltb, le-leb, lt-leb}
use Rattle.std.proofs.Math.Nat.{sub-zero}
use Rattle.std.proofs.Math.IntN.{sub_ℕ}
use Rattle.model.specs.Offset.{min_i64, max_i64, max_u32, saturating_add, clamp_u32, shift_clamp, shift_u32}

-- a sum that is too great for 64 bits, or too small, is clamped as what it stops at
clamp_great : (b : Bool) (s : ℕ) → max_u32 < s → clamp_u32 (cond b max_i64 (pos s)) ≡ max_u32
unfolding clamp_u32
clamp_great true s h = omega arith
clamp_great false s h = omega arith

clamp_small : (b : Bool) (s : ℕ) → clamp_u32 (cond b min_i64 (negsuc s)) ≡ 0
unfolding clamp_u32
clamp_small true s = refl
clamp_small false s = refl

clamp_sum : (b : Bool) (s : ℕ) → leb (2 ^ 63 - 1) s ≡ b → clamp_u32 (cond b max_i64 (pos s)) ≡ min s max_u32
unfolding clamp_u32
clamp_sum true s t = omega (arith, leb-true (2 ^ 63 - 1) s t)
clamp_sum false s t = refl

module _ (x n : ℕ) where
  pub clamp_in : x + n ≤ max_u32 → shift_clamp x (pos n) ≡ x + n
  unfolding shift_clamp saturating_add clamp_u32
  clamp_in h = rw (lt-leb (2 ^ 63 - 1) (n + x) (omega arith)) (omega arith)

  pub clamp_over : max_u32 < x + n → shift_clamp x (pos n) ≡ max_u32
  unfolding shift_clamp saturating_add
  clamp_over h = clamp_great (leb (2 ^ 63 - 1) (n + x)) (n + x) (omega arith)

  pub clamp_back : n < x → x ≤ max_u32 → shift_clamp x (negsuc n) ≡ x - n - 1
  unfolding shift_clamp saturating_add clamp_u32
  clamp_back h b = rw (le-ltb x (suc n) (omega arith), lt-leb (2 ^ 63 - 1) (x - suc n) (omega arith)) (omega arith)

  pub clamp_under : x ≤ n → shift_clamp x (negsuc n) ≡ 0
  unfolding shift_clamp saturating_add
  clamp_under h = rw (lt-ltb x (suc n) (omega arith)) (clamp_small (leb (2 ^ 63 - 1) (suc n - suc x)) (suc n - suc x))

  -- both in one
  pub clamped : shift_clamp x (pos n) ≡ min (x + n) max_u32
  unfolding shift_clamp saturating_add
  clamped = clamp_sum (leb (2 ^ 63 - 1) (n + x)) (n + x) refl ∙ omega arith

  pub shift_in : x + n ≤ max_u32 → shift_u32 x (pos n) ≡ some (x + n)
  unfolding shift_u32 clamp_u32
  shift_in h =
      let e : min (n + x) max_u32 ≡ x + n = omega arith in
      rw (le-leb (n + x) (2 ^ 63 - 1) (omega arith), le-leb 0 (n + x) (omega arith), le-leb (n + x) max_u32 (omega arith), e) refl

  pub shift_over : max_u32 < x + n → shift_u32 x (pos n) ≡ none
  unfolding shift_u32
  shift_over h = rw (lt-leb (n + x) max_u32 (omega arith), and-false) refl

  pub shift_back : n < x → x ≤ max_u32 → shift_u32 x (negsuc n) ≡ some (x - n - 1)
  unfolding shift_u32 clamp_u32
  shift_back h b =
      let e : min (x - suc n) max_u32 ≡ x - n - 1 = omega arith in
      rw (
        le-ltb x (suc n) (omega arith),
        le-leb (x - suc n) (2 ^ 63 - 1) (omega arith),
        le-leb 0 (x - suc n) (omega arith),
        le-leb (x - suc n) max_u32 (omega arith),
        e,
      )
      refl

  pub shift_under : x ≤ n → shift_u32 x (negsuc n) ≡ none
  unfolding shift_u32
  shift_under h = rw (lt-ltb x (suc n) (omega arith), and-false) refl

-- ---- the difference of two numbers

pub sub_signs : (a b : ℕ) → pos a -ℤ pos b ≡ sub_ℕ a b
sub_signs a zero = rw (le-ltb a 0 (omega arith), sub-zero, add-zero) refl
sub_signs a (suc b) = refl
