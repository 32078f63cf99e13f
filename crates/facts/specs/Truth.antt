-- Laws of truth values, and of tests that agree.
use Rattle.std.specs.Prelude.{◌≡◌, refl, ◌⊎◌, ℕ, ◌+◌, ◌-◌, ◌≤◌, ◌<◌, Bool, true, false, not, ◌&&◌, ◌||◌, leb}
use Rattle.std.proofs.Common.{sym, ap, ◌∙◌, arith, inl, inr, leb-true, leb-false, le-leb}
use Rattle.std.proofs.lemmas.Bool.{lt-leb, false≢true}

-- a truth value is true or false, and what is shown in both cases holds
pub by_bool : {X : Type 0} (b : Bool) → (b ≡ true → X) → (b ≡ false → X) → X
by_bool true t f = t refl
by_bool false t f = f refl

-- ---- two tests

pub both : (x y : Bool) → x && y ≡ true → (x ≡ true) × (y ≡ true)
both true y e = (refl, e)
both false y e = absurd (false≢true e)

pub join : (x y : Bool) → x ≡ true → y ≡ true → x && y ≡ true
join true y p q = q
join false y p q = absurd (false≢true p)

pub either : (x y : Bool) → x || y ≡ true → (x ≡ true) ⊎ (y ≡ true)
either true y e = inl refl
either false y e = inr e

-- of two that do not hold together
pub not_both : (x y : Bool) → not (x && y) ≡ true → y ≡ true → x ≡ false
not_both true y e h = absurd (false≢true (let z : not (true && true) ≡ true = rw h at e in z))
not_both false y e h = refl

pub neither : (x y : Bool) → x || y ≡ false → (x ≡ false) × (y ≡ false)
neither true y e = absurd (false≢true (sym e))
neither false y e = (refl, e)

pub or_left : (x y : Bool) → x ≡ true → x || y ≡ true
or_left true y e = refl
or_left false y e = absurd (false≢true e)

pub or_right : (x y : Bool) → y ≡ true → x || y ≡ true
or_right true y e = refl
or_right false y e = e

pub and_false : (x y : Bool) → y ≡ false → x && y ≡ false
and_false true y z = z
and_false false y z = refl

-- four in a row, the first of them known by another name
pub and_turn : (v w x y z : Bool) → v ≡ w → v && x && y && z ≡ w && (x && y && z)
and_turn true w x y z e = ap (λ (b : Bool). b && (x && y && z)) e
and_turn false w x y z e = ap (λ (b : Bool). b && (x && y && z)) e

-- ---- tests of numbers

pub same_le : (a b c d : ℕ) → (a ≤ b → c ≤ d) → (b < a → d < c) → leb a b ≡ leb c d
same_le a b c d f g = go (leb a b) refl
  where
    go : (t : Bool) → leb a b ≡ t → t ≡ leb c d
    go true e = sym (le-leb c d (f (leb-true a b e)))
    go false e = sym (lt-leb c d (g (leb-false a b e)))

-- what is left of a room, asked for
pub leb_left : (a b n : ℕ) → a ≤ n → leb b (n - a) ≡ leb (a + b) n
leb_left a b n h =
    by_bool (leb (a + b) n)
    (λ q. let l = leb-true (a + b) n q in le-leb b (n - a) (omega (arith, l, h)) ∙ sym q)
    (λ q. let l = leb-false (a + b) n q in lt-leb b (n - a) (omega (arith, l, h)) ∙ sym q)
