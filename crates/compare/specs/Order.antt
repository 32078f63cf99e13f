-- The lexicographic order of strings, that it is an order, and that the library's is the same.
use Rattle.std.specs.Prelude.{◌≡◌, ℕ, ◌≤◌, ◌<◌, Bool, true, false, cond, List, [], ◌∷◌, ltb, eqb}
use Rattle.std.specs.Ordering.{is_lt, nat_cmp, MatchOrdering}
use Rattle.std.specs.Cmp.Lexicographic.{slice_cmp}
use Rattle.std.specs.declared.cmp.Ordering.{Ordering}
use Rattle.std.specs.declared.cmp.Ordering.TheVariants.{Less, Equal, Greater}
use Rattle.std.proofs.Common.{refl, sym, ◌∙◌, arith, true≢false, lt-ltb, le-ltb, ltb-true, ltb-false, eq-eqb, ne_eqb, eqb-true}
use Rattle.std.proofs.lemmas.Bool.{false≢true, eqb-false}
use Rattle.std.proofs.lemmas.Cmp.{ranked, same_from_slice_cmp}
use Rattle.model.specs.Lists.{same}
use Rattle.facts.specs.Truth.{by_bool}

unfoldable pub precedes : List ℕ → List ℕ → Bool
precedes [] [] = false
precedes [] (y ∷ ys) = true
precedes (x ∷ xs) [] = false
precedes (x ∷ xs) (y ∷ ys) = cond (eqb x y) (precedes xs ys) (ltb x y)

-- ---- an order

-- by the first element, where it differs
first_less : (x y : ℕ) (rest : Bool) → x < y → cond (eqb x y) rest (ltb x y) ≡ true
first_less x y rest h = let d : x ≡ y → ⊥ = λ e. omega (arith, e, h) in rw (ne_eqb x y d, lt-ltb x y h) refl

first_same : (x y : ℕ) (rest : Bool) → x ≡ y → cond (eqb x y) rest (ltb x y) ≡ rest
first_same x y rest e = rw (eq-eqb x y e) refl

first_other : (x y : ℕ) (rest : Bool) → (x ≡ y → ⊥) → cond (eqb x y) rest (ltb x y) ≡ ltb x y
first_other x y rest d = rw (ne_eqb x y d) refl

pub precedes_self : (a : List ℕ) → precedes a a ≡ false
unfolding precedes
precedes_self [] = refl
precedes_self (x ∷ a) = first_same x x (precedes a a) refl ∙ precedes_self a

pub precedes_trans : (a b c : List ℕ) → precedes a b ≡ true → precedes b c ≡ true → precedes a c ≡ true
unfolding precedes
precedes_trans [] [] c e f = absurd (false≢true e)
precedes_trans [] (y ∷ b) [] e f = absurd (false≢true f)
precedes_trans [] (y ∷ b) (z ∷ c) e f = refl
precedes_trans (x ∷ a) [] c e f = absurd (false≢true e)
precedes_trans (x ∷ a) (y ∷ b) [] e f = absurd (false≢true f)
precedes_trans (x ∷ a) (y ∷ b) (z ∷ c) e f =
    by_bool (eqb x y)
    (λ p.
    let xy = eqb-true x y p in
    by_bool (eqb y z)
    (λ q.
    let yz = eqb-true y z q in
    first_same x z (precedes a c) (xy ∙ yz)
    ∙ precedes_trans a b c (sym (first_same x y (precedes a b) xy) ∙ e) (sym (first_same y z (precedes b c) yz) ∙ f))
    (λ q.
    let l = ltb-true y z (sym (first_other y z (precedes b c) (eqb-false y z q)) ∙ f) in
    first_less x z (precedes a c) (omega (arith, xy, l))))
    (λ p.
    let k = ltb-true x y (sym (first_other x y (precedes a b) (eqb-false x y p)) ∙ e) in
    by_bool (eqb y z)
    (λ q. let yz = eqb-true y z q in first_less x z (precedes a c) (omega (arith, yz, k)))
    (λ q.
    let l = ltb-true y z (sym (first_other y z (precedes b c) (eqb-false y z q)) ∙ f) in
    first_less x z (precedes a c) (omega (arith, k, l))))

-- of two unlike strings one precedes the other
pub precedes_total : (a b : List ℕ) → precedes a b ≡ false → same b a ≡ false → precedes b a ≡ true
unfolding precedes
precedes_total [] [] e f = absurd (true≢false f)
precedes_total [] (y ∷ b) e f = absurd (true≢false e)
precedes_total (x ∷ a) [] e f = refl
precedes_total (x ∷ a) (y ∷ b) e f =
    by_bool (eqb y x)
    (λ q.
    let yx = eqb-true y x q in
    first_same y x (precedes b a) yx ∙ precedes_total a b (sym (first_same x y (precedes a b) (sym yx)) ∙ e) (rw q at f))
    (λ q.
    let d : x ≡ y → ⊥ = λ z. eqb-false y x q (sym z) in
    let l = ltb-false x y (sym (first_other x y (precedes a b) d) ∙ e) in
    let m : y < x = lower x y d l in
    first_less y x (precedes b a) m)
  where
    lower : (x y : ℕ) → (x ≡ y → ⊥) → y ≤ x → y < x
    lower x y d l = by_bool (ltb y x) (λ t. ltb-true y x t) (λ t. let g = ltb-false y x t in absurd (d (omega (arith, g, l))))

-- ---- as the library compares two slices

first_greater : (x y : ℕ) (rest : Bool) → y < x → cond (eqb x y) rest (ltb x y) ≡ false
first_greater x y rest h = let d : x ≡ y → ⊥ = λ e. omega (arith, e, h) in rw (ne_eqb x y d, le-ltb x y (omega arith)) refl

pub precedes_cmp : (a b : List ℕ) (r : Ordering) → r ≡ slice_cmp nat_cmp a b → is_lt r ≡ precedes a b
unfolding precedes
precedes_cmp = same_from_slice_cmp nat_cmp is_lt precedes refl (λ y ys. refl) (λ x xs. refl) more
  where
    more : (x y : ℕ) (xs ys : List ℕ) (o : Ordering) → o ≡ nat_cmp x y
        → MatchOrdering o (precedes (x ∷ xs) (y ∷ ys) ≡ true) (precedes (x ∷ xs) (y ∷ ys) ≡ precedes xs ys) (precedes (x ∷ xs) (y ∷ ys) ≡ false)
    more x y xs ys Less e = first_less x y (precedes xs ys) (ranked x y Less e)
    more x y xs ys Equal e = first_same x y (precedes xs ys) (ranked x y Equal e)
    more x y xs ys Greater e = first_greater x y (precedes xs ys) (ranked x y Greater e)
