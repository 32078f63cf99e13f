-- What an answer tells: a 'yes' is sure, and where the tables are made a 'no' is as well.
use Rattle.std.specs.Prelude.{◌≡◌, Bool, true, false, ◌&&◌}
use Rattle.std.proofs.Common.{refl, sym, ◌∙◌, true≢false}
use Rattle.facts.specs.Truth.{both}

pub record Told (tabled r x : Bool) : Type 0 where
  pub sure : r ≡ true → x ≡ true
  pub whole : tabled ≡ true → r ≡ x

pub told : {e r x : Bool} → r ≡ x → Told e r x
told q = record { sure = λ y. sym q ∙ y; whole = λ _. q }

pub told_as : {e r x y : Bool} → Told e r x → x ≡ y → Told e r y
told_as s q = record { sure = λ y. sym q ∙ s.sure y; whole = λ h. s.whole h ∙ q }

-- without tables
pub told_quick : {e r x : Bool} → e ≡ false → (r ≡ true → x ≡ true) → Told e r x
told_quick n f = record { sure = f; whole = λ y. absurd (true≢false (sym y ∙ n)) }

pub told_less : {a : Bool} (b : Bool) {r x : Bool} → Told a r x → Told (a && b) r x
told_less {a} b s = record { sure = s.sure; whole = λ y. s.whole (both a b y).0 }

pub not_both : (a : Bool) {b : Bool} → b ≡ false → (a && b) ≡ false
not_both true h = h
not_both false h = refl

-- a 'no' to a part is a 'no' to the whole
pub told_no : {e r x y : Bool} → Told e r x → r ≡ false → (x ≡ false → false ≡ y) → Told e false y
told_no s n f = record { sure = λ y. absurd (true≢false (sym y)); whole = λ h. f (sym (s.whole h) ∙ n) }
