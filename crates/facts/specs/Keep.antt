-- Laws of `all`, `any` and `keep`; of `keep`, `map` and `any` beside a test `ok` that every element passes.
use Rattle.std.specs.Prelude.{◌≡◌, refl, ℕ, zero, suc, get_or, set, take, drop, Bool, true, false, cond, not, ◌&&◌, ◌||◌, List, [], ◌∷◌, ◌++◌, map}
use Rattle.std.proofs.Common.{sym, ap, ap₂, ◌∙◌}
use Rattle.std.proofs.lemmas.Bool.{false≢true}
use Rattle.std.proofs.Math.Bool.{and_assoc, or_assoc}
use Rattle.model.specs.Lists.{all, any, keep, tabulate, is_empty}
use Rattle.facts.specs.Truth.{both, join, neither}

-- ---- a test of every element

module _ {A : Type 0} (p : A → Bool) where
  pub all_take : (n : ℕ) (l : List A) → all p l ≡ true → all p (take n l) ≡ true
  all_take zero l e = refl
  all_take (suc n) [] e = refl
  all_take (suc n) (x ∷ xs) e = let s = both (p x) (all p xs) e in join (p x) (all p (take n xs)) s.0 (all_take n xs s.1)

  pub all_drop : (n : ℕ) (l : List A) → all p l ≡ true → all p (drop n l) ≡ true
  all_drop zero l e = e
  all_drop (suc n) [] e = refl
  all_drop (suc n) (x ∷ xs) e = all_drop n xs (both (p x) (all p xs) e).1

  pub all_append : (a b : List A) → all p a ≡ true → all p b ≡ true → all p (a ++ b) ≡ true
  all_append [] b e f = f
  all_append (x ∷ xs) b e f = let s = both (p x) (all p xs) e in join (p x) (all p (xs ++ b)) s.0 (all_append xs b s.1 f)

  pub all_left : (a b : List A) → all p (a ++ b) ≡ true → all p a ≡ true
  all_left [] b e = refl
  all_left (x ∷ xs) b e = let s = both (p x) (all p (xs ++ b)) e in join (p x) (all p xs) s.0 (all_left xs b s.1)

  pub all_right : (a b : List A) → all p (a ++ b) ≡ true → all p b ≡ true
  all_right [] b e = e
  all_right (x ∷ xs) b e = all_right xs b (both (p x) (all p (xs ++ b)) e).1

  pub all_map : (q : A → Bool) → ((x : A) → p x ≡ true → q x ≡ true) → (l : List A) → all p l ≡ true → all q l ≡ true
  all_map q f [] e = refl
  all_map q f (x ∷ xs) e = let s = both (p x) (all p xs) e in join (q x) (all q xs) (f x s.0) (all_map q f xs s.1)

  pub all_and : (q : A → Bool) (l : List A) → all p l ≡ true → all q l ≡ true → all (λ x. p x && q x) l ≡ true
  all_and q [] e f = refl
  all_and q (x ∷ xs) e f =
      let s = both (p x) (all p xs) e in
      let t = both (q x) (all q xs) f in
      join (p x && q x) (all (λ y. p y && q y) xs) (join (p x) (q x) s.0 t.0) (all_and q xs s.1 t.1)

  pub all_keep : (q : A → Bool) (l : List A) → all p l ≡ true → all p (keep q l) ≡ true
  all_keep q [] e = refl
  all_keep q (x ∷ xs) e = go (all_keep q xs (both (p x) (all p xs) e).1) (q x)
    where
      go : all p (keep q xs) ≡ true → (y : Bool) → all p (cond y (x ∷ keep q xs) (keep q xs)) ≡ true
      go rest true = join (p x) (all p (keep q xs)) (both (p x) (all p xs) e).0 rest
      go rest false = rest

  -- of elements that all pass
  pub all_tabulated : (n : ℕ) (f : ℕ → A) → ((i : ℕ) → p (f i) ≡ true) → all p (tabulate n f) ≡ true
  all_tabulated zero f h = refl
  all_tabulated (suc n) f h = join (p (f zero)) _ (h zero) (all_tabulated n (λ i. f (suc i)) (λ i. h (suc i)))

-- ---- the elements that pass

module _ {A : Type 0} where
  keep_step : (p : A → Bool) (x : A) (a b r : List A) → r ≡ keep p a ++ b → cond (p x) (x ∷ r) r ≡ cond (p x) (x ∷ keep p a) (keep p a) ++ b
  keep_step p x a b r e = go (p x)
    where
      go : (t : Bool) → cond t (x ∷ r) r ≡ cond t (x ∷ keep p a) (keep p a) ++ b
      go true = ap (λ (l : List A). x ∷ l) e
      go false = e

  pub keep_append : (p : A → Bool) (a b : List A) → keep p (a ++ b) ≡ keep p a ++ keep p b
  keep_append p [] b = refl
  keep_append p (x ∷ a) b = keep_step p x a (keep p b) (keep p (a ++ b)) (keep_append p a b)

  pub all_keep_self : (p : A → Bool) (l : List A) → all p (keep p l) ≡ true
  all_keep_self p [] = refl
  all_keep_self p (x ∷ l) = go (p x) refl (all_keep_self p l)
    where
      go : (t : Bool) → p x ≡ t → all p (keep p l) ≡ true → all p (cond t (x ∷ keep p l) (keep p l)) ≡ true
      go true e r = join (p x) (all p (keep p l)) e r
      go false e r = r

module _ {A : Type 0} (ok : A → Bool) where
  pub keep_same : (p q : A → Bool) → ((x : A) → ok x ≡ true → p x ≡ q x) → (l : List A) → all ok l ≡ true → keep p l ≡ keep q l
  keep_same p q e [] h = refl
  keep_same p q e (x ∷ l) h =
      let s = both (ok x) (all ok l) h in
      let r = keep_same p q e l s.1 in
      ap₂ (λ (t : Bool) (k : List A). cond t (x ∷ k) k) (e x s.0) r

  pub keep_none : (p : A → Bool) → ((x : A) → ok x ≡ true → p x ≡ false) → (l : List A) → all ok l ≡ true → keep p l ≡ []
  keep_none p e [] h = refl
  keep_none p e (x ∷ l) h =
      let s = both (ok x) (all ok l) h in
      rw (e x s.0) (keep_none p e l s.1)

  pub keep_all : (p : A → Bool) → ((x : A) → ok x ≡ true → p x ≡ true) → (l : List A) → all ok l ≡ true → keep p l ≡ l
  keep_all p e [] h = refl
  keep_all p e (x ∷ l) h =
      let s = both (ok x) (all ok l) h in
      rw (e x s.0) (ap (λ (k : List A). x ∷ k) (keep_all p e l s.1))

  pub map_same : {B : Type 0} (f g : A → B) → ((x : A) → ok x ≡ true → f x ≡ g x) → (l : List A) → all ok l ≡ true → map f l ≡ map g l
  map_same f g e [] h = refl
  map_same {B} f g e (x ∷ l) h =
      let s = both (ok x) (all ok l) h in
      ap₂ (λ (y : B) (k : List B). y ∷ k) (e x s.0) (map_same f g e l s.1)

  -- no element passes
  pub any_none : (p : A → Bool) → ((x : A) → ok x ≡ true → p x ≡ false) → (l : List A) → all ok l ≡ true → any p l ≡ false
  any_none p e [] h = refl
  any_none p e (x ∷ l) h =
      let s = both (ok x) (all ok l) h in
      rw (e x s.0) (any_none p e l s.1)

  pub keep_keep : (p q : A → Bool) → ((x : A) → ok x ≡ true → p x ≡ true → q x ≡ true) → (l : List A) → all ok l ≡ true → keep p (keep q l) ≡ keep p l
  keep_keep p q e [] h = refl
  keep_keep p q e (x ∷ l) h = go (q x) refl (p x) refl (keep_keep p q e l (both (ok x) (all ok l) h).1)
    where
      go : (t : Bool) → q x ≡ t → (u : Bool) → p x ≡ u → keep p (keep q l) ≡ keep p l → keep p (cond t (x ∷ keep q l) (keep q l)) ≡ cond u (x ∷ keep p l) (keep p l)
      go true f true g r = rw g (ap (λ (k : List A). x ∷ k) r)
      go true f false g r = rw g r
      go false f true g r = absurd (false≢true (sym f ∙ e x (both (ok x) (all ok l) h).0 g))
      go false f false g r = r

-- what a test keeps passes it, and any other that all passed
pub all_kept : {A : Type 0} (ok p : A → Bool) (l : List A) → all ok l ≡ true → all (λ x. ok x && p x) (keep p l) ≡ true
all_kept ok p l a = all_and ok p (keep p l) (all_keep ok p l a) (all_keep_self p l)

module _ {A : Type 0} where
  pub all_true : (l : List A) → all (λ x. true) l ≡ true
  all_true [] = refl
  all_true (x ∷ l) = all_true l

  -- what is true of all that a test keeps
  pub all_if : (p q : A → Bool) (l : List A) → all p (keep q l) ≡ true → all (λ x. not (q x) || p x) l ≡ true
  all_if p q [] a = refl
  all_if p q (x ∷ l) a = go (q x) (all_if p q l) a
    where
      go : (t : Bool) → (all p (keep q l) ≡ true → all (λ y. not (q y) || p y) l ≡ true) → all p (cond t (x ∷ keep q l) (keep q l)) ≡ true → (not t || p x) && all (λ y. not (q y) || p y) l ≡ true
      go true r a = let s = both (p x) (all p (keep q l)) a in join (p x) (all (λ y. not (q y) || p y) l) s.0 (r s.1)
      go false r a = r a

  pub any_is : (p : A → Bool) (l : List A) → any p l ≡ not (is_empty (keep p l))
  any_is p [] = refl
  any_is p (x ∷ l) = go (p x) (any_is p l)
    where
      go : (t : Bool) → any p l ≡ not (is_empty (keep p l)) → t || any p l ≡ not (is_empty (cond t (x ∷ keep p l) (keep p l)))
      go true r = refl
      go false r = r

  pub keep_comm : (p q : A → Bool) (l : List A) → keep p (keep q l) ≡ keep q (keep p l)
  keep_comm p q [] = refl
  keep_comm p q (x ∷ l) = go (q x) refl (p x) refl (keep_comm p q l)
    where
      go : (t : Bool) → q x ≡ t → (u : Bool) → p x ≡ u → keep p (keep q l) ≡ keep q (keep p l)
          → keep p (cond t (x ∷ keep q l) (keep q l)) ≡ keep q (cond u (x ∷ keep p l) (keep p l))
      go true f true g r = rw (f, g) (ap (λ (k : List A). x ∷ k) r)
      go true f false g r = rw g r
      go false f true g r = rw f r
      go false f false g r = r

  pub all_append_is : (p : A → Bool) (a b : List A) → all p (a ++ b) ≡ all p a && all p b
  all_append_is p [] b = refl
  all_append_is p (x ∷ a) b = rw (all_append_is p a b) (sym (and_assoc (p x) (all p a) (all p b)))

  pub any_append_is : (p : A → Bool) (a b : List A) → any p (a ++ b) ≡ any p a || any p b
  any_append_is p [] b = refl
  any_append_is p (x ∷ a) b = rw (any_append_is p a b) (sym (or_assoc (p x) (any p a) (any p b)))

  pub all_get : (p : A → Bool) (l : List A) (i : ℕ) (d : A) → all p l ≡ true → p d ≡ true → p (get_or l i d) ≡ true
  all_get p [] i d a h = h
  all_get p (x ∷ l) zero d a h = (both (p x) (all p l) a).0
  all_get p (x ∷ l) (suc i) d a h = all_get p l i d (both (p x) (all p l) a).1 h

  pub all_set : (p : A → Bool) (l : List A) (i : ℕ) (x : A) → all p l ≡ true → p x ≡ true → all p (set l i x) ≡ true
  all_set p [] i x a h = refl
  all_set p (y ∷ l) zero x a h = join (p x) (all p l) h (both (p y) (all p l) a).1
  all_set p (y ∷ l) (suc i) x a h = let s = both (p y) (all p l) a in join (p y) (all p (set l i x)) s.0 (all_set p l i x s.1 h)

module _ {A B : Type 0} where
  pub keep_map : (p : B → Bool) (f : A → B) (l : List A) → keep p (map f l) ≡ map f (keep (λ x. p (f x)) l)
  keep_map p f [] = refl
  keep_map p f (x ∷ l) = go (p (f x)) (keep_map p f l)
    where
      go : (t : Bool) → keep p (map f l) ≡ map f (keep (λ x. p (f x)) l)
          → cond t (f x ∷ keep p (map f l)) (keep p (map f l)) ≡ map f (cond t (x ∷ keep (λ x. p (f x)) l) (keep (λ x. p (f x)) l))
      go true r = ap (λ (k : List B). f x ∷ k) r
      go false r = r

  pub all_map_is : (p : B → Bool) (f : A → B) (l : List A) → all p (map f l) ≡ all (λ x. p (f x)) l
  all_map_is p f [] = refl
  all_map_is p f (x ∷ l) = ap (λ (t : Bool). p (f x) && t) (all_map_is p f l)

-- what no element passes, every element fails
pub any_all : {A : Type 0} (p : A → Bool) (l : List A) → any p l ≡ false → all (λ x. not (p x)) l ≡ true
any_all p [] e = refl
any_all p (x ∷ l) e = let s = neither (p x) (any p l) e in rw s.0 (any_all p l s.1)
