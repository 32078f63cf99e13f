-- A value, and none where the test that refuses it holds.
use Rattle.std.specs.Prelude.{◌≡◌, refl, Bool, true, false, cond, Option, Some, None}

abbrev pub unless : {A : Type 0} → Bool → A → Option A
unless refused a = cond refused None (Some a)

pub unless_none : {A : Type 0} (t : Bool) (a : A) → None ≡ unless t a → t ≡ true
unless_none true a e = refl
unless_none false a e = cc

pub unless_some : {A : Type 0} (t : Bool) (a : A) {b : A} → Some b ≡ unless t a → (t ≡ false) × (b ≡ a)
unless_some true a e = cc
unless_some false a e = (refl, cc)
