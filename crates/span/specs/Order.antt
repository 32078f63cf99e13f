-- What `<=` and `<` of two offsets answer is the order of their numbers.
use Rattle.std.specs.Prelude.{ℕ, ◌≤◌, ◌<◌, ◌≡◌, Bool, true, false, leb, ltb}
use Rattle.std.specs.Ordering.{is_le, is_lt, nat_cmp}
use Rattle.std.proofs.Common.{arith, sym, ◌∙◌, leb-true, leb-false, ltb-true, ltb-false}
use Rattle.std.proofs.lemmas.Bool.Decides.{nat_tests}

pub le_is : (a b : ℕ) → is_le (nat_cmp a b) ≡ leb a b
le_is a b = grind (arith, nat_tests)

pub lt_is : (a b : ℕ) → is_lt (nat_cmp a b) ≡ ltb a b
lt_is a b = grind (arith, nat_tests)

module _ (a b : ℕ) {r : Bool} where
  pub at_most : r ≡ is_le (nat_cmp a b) → r ≡ true → a ≤ b
  at_most e h = leb-true a b (sym (le_is a b) ∙ sym e ∙ h)

  pub above : r ≡ is_le (nat_cmp a b) → r ≡ false → b < a
  above e h = leb-false a b (sym (le_is a b) ∙ sym e ∙ h)

  pub below : r ≡ is_lt (nat_cmp a b) → r ≡ true → a < b
  below e h = ltb-true a b (sym (lt_is a b) ∙ sym e ∙ h)

  pub at_least : r ≡ is_lt (nat_cmp a b) → r ≡ false → b ≤ a
  at_least e h = ltb-false a b (sym (lt_is a b) ∙ sym e ∙ h)
