use Rattle.std.proofs.Common.{◌≡◌, ℕ, ◌+◌, ◌-◌, ◌<◌, ◌≤◌, pos, negsuc, Option, Some, None, SomeIff, sym, arith}
use Rattle.std.proofs.lemmas.Grind.{common_steps}
use Rattle.model.specs.Offset.{shift_u32}
use Rattle.span.specs.Shift.{shift_in, shift_over, shift_back, shift_under}
use Rattle.span.specs.Values.{option_of}
use Rattle.span.proofs.shift_by.Goals as goal

-- what `checked_add` and `checked_sub` answer
added : (x n : ℕ) (r : Option ℕ) → SomeIff r (x + n < 4294967296) (x + n) → option_of r ≡ shift_u32 x (pos n)
added x n (Some m) h = rw h.1 (sym (shift_in x n (omega (arith, h.0))))
added x n None h = sym (shift_over x n (omega (arith, h)))

taken : (x n m : ℕ) (r : Option ℕ) → x < 4294967296 → (n ≤ x) × (m ≡ x - n) → SomeIff r (1 ≤ m) (m - 1) → option_of r ≡ shift_u32 x (negsuc n)
taken x n m (Some k) b l h = let e : k ≡ x - n - 1 = omega (arith, h.1, l.1) in rw e (sym (shift_back x n (omega (arith, h.0, l.0, l.1)) (omega arith)))
taken x n m None b l h = sym (shift_under x n (omega (arith, h, l.0, l.1)))

pub returns-in_err-ok-in-Forward : goal.returns-in_err-ok-in-Forward
returns-in_err-ok-in-Forward c =
    let far : 4294967296 ≤ c.in-Forward.n = grind (arith, common_steps, c.in_err-ok-in-Forward.ensures.variant, c.try_from.ensures) in
    rw (c.from_residual.ensures, c.in-Forward.is) (sym (shift_over _ _ (omega arith)))

pub returns-in_ok-ok-in-Forward : goal.returns-in_ok-ok-in-Forward
returns-in_ok-ok-in-Forward c =
    let same : c.in_ok-ok-in-Forward.field-0 ≡ c.in-Forward.n = grind (arith, common_steps, c.in_ok-ok-in-Forward.ensures.value, c.try_from.ensures) in
    rw c.in-Forward.is (added _ _ _ (rw same at c.checked_add.ensures))

pub returns-in_err-ok-in-Back : goal.returns-in_err-ok-in-Back
returns-in_err-ok-in-Back c =
    let far : 4294967296 ≤ c.in-Back.n = grind (arith, common_steps, c.in_err-ok-in-Back.ensures.variant, c.try_from-in-Back.ensures) in
    rw (c.from_residual-in_err-ok-in-Back.ensures, c.in-Back.is) (sym (shift_under _ _ (omega arith)))

pub returns-in_err-checked_sub-in-Back : goal.returns-in_err-checked_sub-in-Back
returns-in_err-checked_sub-in-Back c =
    let same : c.in_ok-ok-in-Back.field-0 ≡ c.in-Back.n = grind (arith, common_steps, c.in_ok-ok-in-Back.ensures.value, c.try_from-in-Back.ensures) in
    rw (c.from_residual-in_err-checked_sub-in-Back.ensures, c.in-Back.is) (sym (shift_under _ _ (omega (arith, c.in_err-checked_sub-in-Back.ensures))))

pub returns-in_ok-checked_sub-in-Back : goal.returns-in_ok-checked_sub-in-Back
returns-in_ok-checked_sub-in-Back c =
    let same : c.in_ok-ok-in-Back.field-0 ≡ c.in-Back.n = grind (arith, common_steps, c.in_ok-ok-in-Back.ensures.value, c.try_from-in-Back.ensures) in
    rw c.in-Back.is (taken _ _ _ _ c.ranges.value.fits (rw same at c.in_ok-checked_sub-in-Back.ensures) c.checked_sub-in-Back.ensures)
