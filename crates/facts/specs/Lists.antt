-- Laws of lists: equality as a test, lists one behind the other, sums, the i-th element, lists that are tabulated, parts.
use Rattle.std.specs.Prelude.{◌≡◌, refl, ℕ, zero, suc, ◌+◌, ◌≤◌, ◌<◌, true, false, length, get_or, take, drop, replicate, eqb, Bool}
use Rattle.std.proofs.Common.{sym, ap, ap₂, ◌∙◌, arith, add-one, length-drop, length-take-le, drop-cons, drop-drop, take-add, eqb-true, eq-eqb, ne_eqb, length-append}
use Rattle.std.proofs.lemmas.Bool.{false≢true}
use Rattle.std.proofs.Math.Option.{none, some}
use mathlib.Core.List.{List, [], ◌∷◌, ◌++◌, append_assoc, append-nil, map, flatten}
use Rattle.std.proofs.Math.ListN.{get_elem?}
use Rattle.model.specs.Lists.{is_empty, same, tabulate, sum}
use Rattle.model.specs.Bytes.{byte_at, part}
use Rattle.facts.specs.Truth.{both, join}

-- ---- lists of numbers compared: `same` is equality

pub same_eq : (a b : List ℕ) → same a b ≡ true → a ≡ b
same_eq [] [] e = refl
same_eq [] (y ∷ b) e = absurd (false≢true e)
same_eq (x ∷ a) [] e = absurd (false≢true e)
same_eq (x ∷ a) (y ∷ b) e =
    let s = both (eqb x y) (same a b) e in
    let h = eqb-true x y s.0 in
    let t = same_eq a b s.1 in
    λ i. h i ∷ t i

pub same_refl : (a : List ℕ) → same a a ≡ true
same_refl [] = refl
same_refl (x ∷ a) = join (eqb x x) (same a a) (eq-eqb x x refl) (same_refl a)

pub same_sym : (a b : List ℕ) → same a b ≡ same b a
same_sym a b = go (same a b) refl (same b a) refl
  where
    go : (x : Bool) → same a b ≡ x → (y : Bool) → same b a ≡ y → x ≡ y
    go true e true f = refl
    go true e false f = absurd (false≢true (sym f ∙ ap (same b) (same_eq a b e) ∙ same_refl b))
    go false e true f = absurd (false≢true (sym e ∙ ap (same a) (same_eq b a f) ∙ same_refl a))
    go false e false f = refl

-- ---- lists one behind the other

pub flatten_append : {A : Type 0} (xss yss : List (List A)) → flatten (xss ++ yss) ≡ flatten xss ++ flatten yss
unfolding flatten
flatten_append [] yss = refl
flatten_append (xs ∷ xss) yss = ap (λ l. xs ++ l) (flatten_append xss yss) ∙ sym (append_assoc xs (flatten xss) (flatten yss))

pub flatten_snoc : {A : Type 0} (xss : List (List A)) (xs : List A) → flatten (xss ++ (xs ∷ [])) ≡ flatten xss ++ xs
unfolding flatten
flatten_snoc [] xs = append-nil xs
flatten_snoc (ys ∷ xss) xs = ap (λ l. ys ++ l) (flatten_snoc xss xs) ∙ sym (append_assoc ys (flatten xss) xs)

pub parted : {A : Type 0} (xs ys zs us : List A) → xs ++ (ys ++ (zs ++ us)) ≡ (xs ++ (ys ++ zs)) ++ us
parted xs ys zs us = simp append_assoc

pub head_length : {A : Type 0} (l : List A) (n : ℕ) (xs : List A) → n ≤ length l → length (take n l ++ xs) ≡ n + length xs
head_length l n xs h = simp (length-append, length-take-le)

pub map_append : {A B : Type 0} (f : A → B) (xs ys : List A) → map f (xs ++ ys) ≡ map f xs ++ map f ys
map_append f [] ys = refl
map_append f (x ∷ xs) ys = ap (λ l. f x ∷ l) (map_append f xs ys)

pub map_map : {A B C : Type 0} (g : B → C) (f : A → B) (l : List A) → map g (map f l) ≡ map (λ x. g (f x)) l
map_map g f [] = refl
map_map {C} g f (x ∷ l) = ap (λ (k : List C). g (f x) ∷ k) (map_map g f l)

pub sum_append : (xs ys : List ℕ) → sum (xs ++ ys) ≡ sum xs + sum ys
sum_append [] ys = omega arith
sum_append (x ∷ xs) ys = rw (sum_append xs ys) (omega arith)

-- ---- a list without elements

pub is_empty_lem : {A : Type 0} (l : List A) → is_empty l ≡ eqb (length l) 0
is_empty_lem [] = refl
is_empty_lem (x ∷ xs) = sym (ne_eqb (suc (length xs)) 0 (λ e. omega (arith, e)))

-- ---- the i-th of a list

-- where there may be none
pub item_in : {A : Type 0} (l : List A) (i : ℕ) (default : A) → i < length l → get_elem? l i ≡ some (get_or l i default)
item_in [] i default h = absurd (omega arith)
item_in (x ∷ xs) zero default h = refl
item_in (x ∷ xs) (suc i) default h = item_in xs i default (omega arith)

pub item_out : {A : Type 0} (l : List A) (i : ℕ) → length l ≤ i → get_elem? l i ≡ none
item_out [] i h = refl
item_out (x ∷ xs) zero h = absurd (omega arith)
item_out (x ∷ xs) (suc i) h = item_out xs i (omega arith)

pub get_zeros : (n i : ℕ) → ◌≡◌ {A = ℕ} (get_or (replicate n 0) i 0) 0
get_zeros zero i = refl
get_zeros (suc n) zero = refl
get_zeros (suc n) (suc i) = get_zeros n i

-- ---- f 0, f 1, .. f (n - 1)

module _ {A : Type 0} where
  pub length_tabulate : (n : ℕ) (f : ℕ → A) → length (tabulate n f) ≡ n
  length_tabulate zero f = refl
  length_tabulate (suc n) f = ap suc (length_tabulate n (λ (i : ℕ). f (suc i)))

  pub get_d_tabulate : (n i : ℕ) (f : ℕ → A) (default : A) → i < n → get_or (tabulate n f) i default ≡ f i
  get_d_tabulate zero i f default h = absurd (omega arith)
  get_d_tabulate (suc n) zero f default h = refl
  get_d_tabulate (suc n) (suc i) f default h = get_d_tabulate n i (λ j. f (suc j)) default (omega arith)

  pub tabulate_last : (n : ℕ) (f : ℕ → A) → tabulate (suc n) f ≡ tabulate n f ++ (f n ∷ [])
  tabulate_last zero f = refl
  tabulate_last (suc n) f = ap (λ (l : List A). f 0 ∷ l) (tabulate_last n (λ (i : ℕ). f (suc i)))

  pub tabulate_same : (n : ℕ) (f g : ℕ → A) → ((i : ℕ) → i < n → f i ≡ g i) → tabulate n f ≡ tabulate n g
  tabulate_same zero f g e = refl
  tabulate_same (suc n) f g e = ap₂ (λ x xs. x ∷ xs) (e zero (omega arith)) (tabulate_same n (λ i. f (suc i)) (λ i. g (suc i)) (λ i h. e (suc i) (omega (arith, h))))

-- ---- a part of a list

pub part_length : (l : List ℕ) (at n : ℕ) → at + n ≤ length l → length (part l at n) ≡ n
part_length l at n h = length-take-le n (drop at l) (omega (arith, length-drop at l))

pub part_cons : (t : List ℕ) (p n : ℕ) → p < length t → part t p (suc n) ≡ byte_at t p ∷ part t (p + 1) n
part_cons t p n h = rw (add-one p, drop-cons t p 0 h)

pub part_add : (t : List ℕ) (p n m : ℕ) → part t p (n + m) ≡ part t p n ++ part t (p + n) m
part_add t p n m = take-add n m (drop p t) ∙ ap (λ (l : List ℕ). part t p n ++ take m l) (drop-drop n p t)
