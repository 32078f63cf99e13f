-- A refusal as its number, and what a call answers as a value or a number of the model.
use Rattle.std.specs.Prelude.{◌≡◌, ℕ, ◌<◌, ◌≤◌, Result, Ok, Err, IsErrAnd}
use Rattle.std.proofs.Common.{◌∙◌, refl, sym, ap, arith}
use Rattle.model.specs.Refusal.{Checked, Checked.refused, Checked.accepted, ◌>>=◌, number_of}
use Rattle.refusal.specs.declared.Refusal.{Refusal}
use Rattle.refusal.specs.declared.Refusal.TheVariants.{Layout, NotUtf8, OverLimit, IdOrRange, Level, Place, NormalizedLength, Edit, SameText, RubyFormatDependency, WholeText, OtherText, Unbalanced, Unclosed, NewRubyFormatDependency, CutInCharacter, LayersFull, NoRoom, DeskOrLedger, TotalFull}

-- The number of a refusal: document 01's, behind 18 document 02's.
abbrev pub number : Refusal → ℕ
number Layout = 1
number NotUtf8 = 2
number OverLimit = 3
number IdOrRange = 4
number Level = 5
number Place = 6
number NormalizedLength = 7
number Edit = 8
number SameText = 9
number RubyFormatDependency = 10
number WholeText = 11
number OtherText = 12
number Unbalanced = 13
number Unclosed = 14
number NewRubyFormatDependency = 15
number CutInCharacter = 16
number LayersFull = 17
number NoRoom = 18
number DeskOrLedger = 19
number TotalFull = 20

-- What a call answers, as the model says it: a value, or the number that refuses it.
abbrev pub checked : {A : Type 0} → Result A Refusal → Checked A
checked (Ok a) = accepted a
checked (Err r) = refused (number r)

-- The number of what a call answers: 0 where it is accepted.
abbrev pub number_in : {A : Type 0} → Result A Refusal → ℕ
number_in (Ok a) = 0
number_in (Err r) = number r

-- The same number, and of an accepted value what f makes of it.
abbrev pub checked_map : {A B : Type 0} → (A → B) → Checked A → Checked B
checked_map f (refused n) = refused n
checked_map f (accepted a) = accepted (f a)

-- ---- laws

-- a refusal's number is one of documents 01 and 02, so never 0
pub number_bounds : (r : Refusal) → (0 < number r) × (number r ≤ 20)
number_bounds Layout = (omega arith, omega arith)
number_bounds NotUtf8 = (omega arith, omega arith)
number_bounds OverLimit = (omega arith, omega arith)
number_bounds IdOrRange = (omega arith, omega arith)
number_bounds Level = (omega arith, omega arith)
number_bounds Place = (omega arith, omega arith)
number_bounds NormalizedLength = (omega arith, omega arith)
number_bounds Edit = (omega arith, omega arith)
number_bounds SameText = (omega arith, omega arith)
number_bounds RubyFormatDependency = (omega arith, omega arith)
number_bounds WholeText = (omega arith, omega arith)
number_bounds OtherText = (omega arith, omega arith)
number_bounds Unbalanced = (omega arith, omega arith)
number_bounds Unclosed = (omega arith, omega arith)
number_bounds NewRubyFormatDependency = (omega arith, omega arith)
number_bounds CutInCharacter = (omega arith, omega arith)
number_bounds LayersFull = (omega arith, omega arith)
number_bounds NoRoom = (omega arith, omega arith)
number_bounds DeskOrLedger = (omega arith, omega arith)
number_bounds TotalFull = (omega arith, omega arith)

module _ {A : Type 0} where
  pub number_of-checked : (x : Result A Refusal) → number_of (checked x) ≡ number_in x
  unfolding number_of
  number_of-checked (Ok a) = refl
  number_of-checked (Err r) = refl

  -- what has a refusal's number is refused by it
  pub refused_by : (x : Checked A) (r : Refusal) → number r ≡ number_of x → x ≡ refused (number r)
  unfolding number_of
  refused_by (refused n) r e = ap {B = Checked A} refused (sym e)
  refused_by (accepted a) r e = let b = number_bounds r in absurd (omega (arith, b, e))

  module _ {B : Type 0} (f : A → B) where
    pub checked_map-bind : (x : Checked A) → checked_map f x ≡ (x >>= λ a. accepted (f a))
    unfolding ◌>>=◌
    checked_map-bind (refused n) = refl
    checked_map-bind (accepted a) = refl

    pub map_refused : {x : Checked A} {n : ℕ} → x ≡ refused n → refused n ≡ checked_map f x
    map_refused e = sym (ap (checked_map f) e)

    pub map_accepted : {x : Checked A} {a : A} → x ≡ accepted a → accepted (f a) ≡ checked_map f x
    map_accepted e = sym (ap (checked_map f) e)

    -- and back
    pub was_refused : (x : Checked A) {n : ℕ} → refused n ≡ checked_map f x → x ≡ refused n
    unfolding number_of
    was_refused (refused m) e = ap {B = Checked A} refused (sym (ap number_of e))
    was_refused (accepted a) e = cc

    pub was_accepted : (x : Checked A) {b : B} → accepted b ≡ checked_map f x → (a : A) × (x ≡ accepted a) × (b ≡ f a)
    was_accepted (refused m) e = cc
    was_accepted (accepted a) e = (a, refl, cc)

number_map : {A B : Type 0} (f : A → B) (x : Checked A) → number_of (checked_map f x) ≡ number_of x
unfolding number_of
number_map f (refused n) = refl
number_map f (accepted a) = refl

-- the number of what is said of an answer
pub number_told : {A B : Type 0} (f : A → B) (a : Result B Refusal) (x : Checked A) → checked a ≡ checked_map f x → number_in a ≡ number_of x
number_told f a x e = sym (number_of-checked a) ∙ ap number_of e ∙ number_map f x

-- what a `?` hands on is the refusal that it found
pub handed_on : {A : Type 0} (x : Result A Refusal) {r : Refusal} → IsErrAnd x (λ q. q ≡ r) → x ≡ Err r
handed_on (Ok a) h = absurd h
handed_on (Err q) h = ap {B = Result _ Refusal} Err h
