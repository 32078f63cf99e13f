-- The strings that a table's slots name: where they are distinct and known, they are few. Lists alone; no state of an interner here.
use Rattle.std.specs.Prelude.{◌≡◌, Bool, cond, not, ◌&&◌, ◌||◌, length, get_or, set, replicate, leb}
use Rattle.std.proofs.Math.Path.{refl}
use Rattle.std.proofs.Common.{sym, ap, ap₂, ◌∙◌, arith, true≢false, leb-true}
use Prim.Native.Nat.{ℕ, zero, suc, ◌≤◌, ◌<◌}
use Rattle.std.proofs.Math.Bool.{true, false}
use Rattle.std.proofs.lemmas.Bool.{false≢true}
use mathlib.Core.List.{List, [], ◌∷◌, ◌++◌}
use Rattle.std.proofs.Math.ListN.{get_or-append}
use Rattle.model.specs.Lists.{all, any, keep, same}
use Rattle.model.specs.Ceiling.{is_short, distinct_short}
use Rattle.facts.specs.Truth.{both, join, neither}
use Rattle.facts.specs.Lists.{same_eq, same_sym}
use Rattle.laws.specs.Intern.{Below}
use Rattle.laws.specs.Slots.{taken}

-- ---- no string twice

abbrev pub Distinct : List (List ℕ) → Type 0
Distinct [] = Unit {0}
Distinct (x ∷ xs) = (any (same x) xs ≡ false) × Distinct xs

abbrev without : List ℕ → List (List ℕ) → List (List ℕ)
without y xs = keep (λ x. not (same y x)) xs

-- what is not there stays out
any_without : (x y : List ℕ) (xs : List (List ℕ)) → any (same x) xs ≡ false → any (same x) (without y xs) ≡ false
any_without x y [] e = refl
any_without x y (z ∷ xs) e = go (same y z) (neither (same x z) (any (same x) xs) e) (any_without x y xs)
  where
    go : (t : Bool) → (same x z ≡ false) × (any (same x) xs ≡ false) → (any (same x) xs ≡ false → any (same x) (without y xs) ≡ false)
        → any (same x) (cond (not t) (z ∷ without y xs) (without y xs)) ≡ false
    go true n r = r n.1
    go false n r = rw n.0 (r n.1)

distinct_without : (y : List ℕ) (xs : List (List ℕ)) → Distinct xs → Distinct (without y xs)
distinct_without y [] a = tt
distinct_without y (x ∷ xs) a = go (same y x) (distinct_without y xs a.1)
  where
    go : (t : Bool) → Distinct (without y xs) → Distinct (cond (not t) (x ∷ without y xs) (without y xs))
    go true r = r
    go false r = (any_without x y xs a.0, r)

-- where a string is not there, nothing is left out
none_without : (y : List ℕ) (xs : List (List ℕ)) → any (same y) xs ≡ false → length (without y xs) ≡ length xs
none_without y [] e = refl
none_without y (x ∷ xs) e =
    let n = neither (same y x) (any (same y) xs) e in
    rw n.0 (ap suc (none_without y xs n.1))

-- and else one
few_without : (y : List ℕ) (xs : List (List ℕ)) → Distinct xs → length xs ≤ suc (length (without y xs))
few_without y [] a = omega arith
few_without y (x ∷ xs) a = go (same y x) refl (few_without y xs a.1)
  where
    go : (t : Bool) → same y x ≡ t → length xs ≤ suc (length (without y xs)) → suc (length xs) ≤ suc (length (cond (not t) (x ∷ without y xs) (without y xs)))
    go true e r = let n = none_without y xs (ap (λ (k : List ℕ). any (same k) xs) (same_eq y x e) ∙ a.0) in omega (arith, n)
    go false e r = omega (arith, r)

-- ---- distinct short strings among others are at most the distinct short ones of these

-- a short string of the list ys
abbrev pub known : List (List ℕ) → List ℕ → Bool
known ys x = is_short x && any (same x) ys

known_fewer : (y : List ℕ) (ys xs : List (List ℕ)) → all (known (y ∷ ys)) xs ≡ true → all (known ys) (without y xs) ≡ true
known_fewer y ys [] h = refl
known_fewer y ys (x ∷ xs) h =
    let s = both (known (y ∷ ys) x) (all (known (y ∷ ys)) xs) h in
    go (same y x) refl (known_fewer y ys xs s.1) s.0
  where
    go : (t : Bool) → same y x ≡ t → all (known ys) (without y xs) ≡ true → known (y ∷ ys) x ≡ true → all (known ys) (cond (not t) (x ∷ without y xs) (without y xs)) ≡ true
    go true e r k = r
    go false e r k =
        let b = both (is_short x) (same x y || any (same x) ys) k in
        let z : any (same x) ys ≡ true = sym (ap (λ (u : Bool). u || any (same x) ys) (same_sym x y ∙ e)) ∙ b.1 in
        join (known ys x) (all (known ys) (without y xs)) (join (is_short x) (any (same x) ys) b.0 z) r

-- where y is not short, or comes again, all are known without it
known_again : (y : List ℕ) (ys xs : List (List ℕ)) → is_short y && not (any (same y) ys) ≡ false → all (known (y ∷ ys)) xs ≡ true → all (known ys) xs ≡ true
known_again y ys [] e h = refl
known_again y ys (x ∷ xs) e h =
    let s = both (known (y ∷ ys) x) (all (known (y ∷ ys)) xs) h in
    join (known ys x) (all (known ys) xs) (one s.0) (known_again y ys xs e s.1)
  where
    one : known (y ∷ ys) x ≡ true → known ys x ≡ true
    one k =
        let b = both (is_short x) (same x y || any (same x) ys) k in
        join (is_short x) (any (same x) ys) b.0 (go (same x y) refl b.1)
      where
        go : (t : Bool) → same x y ≡ t → t || any (same x) ys ≡ true → any (same x) ys ≡ true
        go true q z = here (any (same x) ys) refl
          where
            here : (u : Bool) → any (same x) ys ≡ u → u ≡ true
            here true v = refl
            here false v =
                absurd (true≢false (
                sym (join (is_short x) (not (any (same x) ys)) (both (is_short x) (same x y || any (same x) ys) k).0 (ap not v))
                ∙ ap (λ (w : List ℕ). is_short w && not (any (same w) ys)) (same_eq x y q) ∙ e))
        go false q z = z

pub distinct_known : (ys xs : List (List ℕ)) → Distinct xs → all (known ys) xs ≡ true → length xs ≤ distinct_short ys
unfolding distinct_short
distinct_known [] [] a h = omega arith
distinct_known [] (x ∷ xs) a h = absurd (false≢true (sym (none (is_short x)) ∙ (both (known [] x) (all (known []) xs) h).0))
  where
    none : (t : Bool) → t && false ≡ false
    none true = refl
    none false = refl
distinct_known (y ∷ ys) xs a h =
    go (is_short y && not (any (same y) ys)) refl (distinct_known ys (without y xs) (distinct_without y xs a) (known_fewer y ys xs h)) (λ k. distinct_known ys xs a k)
  where
    go : (t : Bool) → is_short y && not (any (same y) ys) ≡ t → length (without y xs) ≤ distinct_short ys → (all (known ys) xs ≡ true → length xs ≤ distinct_short ys)
        → length xs ≤ cond t (suc (distinct_short ys)) (distinct_short ys)
    go true e r f = let w = few_without y xs a in omega (arith, r, w)
    go false e r f = f (known_again y ys xs e h)

-- ---- strings that are all in a list are at most as many, however often they come

one_without : (y : List ℕ) (xs : List (List ℕ)) → any (same y) xs ≡ true → suc (length (without y xs)) ≤ length xs
one_without y [] e = absurd (false≢true e)
one_without y (x ∷ xs) e = go (same y x) e (one_without y xs)
  where
    le : (l : List (List ℕ)) → length (without y l) ≤ length l
    le [] = omega arith
    le (z ∷ l) = next (same y z) (le l)
      where
        next : (t : Bool) → length (without y l) ≤ length l → length (cond (not t) (z ∷ without y l) (without y l)) ≤ suc (length l)
        next true r = omega (arith, r)
        next false r = omega (arith, r)

    go : (t : Bool) → t || any (same y) xs ≡ true → (any (same y) xs ≡ true → suc (length (without y xs)) ≤ length xs)
        → suc (length (cond (not t) (x ∷ without y xs) (without y xs))) ≤ suc (length xs)
    go true h r = omega (arith, le xs)
    go false h r = omega (arith, r h)

-- what is another string is still there
still : (x y : List ℕ) (xs : List (List ℕ)) → same y x ≡ false → any (same x) xs ≡ true → any (same x) (without y xs) ≡ true
still x y [] n e = e
still x y (z ∷ xs) n e = go (same y z) refl (same x z) refl e (still x y xs n)
  where
    go : (t : Bool) → same y z ≡ t → (u : Bool) → same x z ≡ u → u || any (same x) xs ≡ true → (any (same x) xs ≡ true → any (same x) (without y xs) ≡ true)
        → any (same x) (cond (not t) (z ∷ without y xs) (without y xs)) ≡ true
    go true p true q h r = absurd (false≢true (sym n ∙ ap (same y) (same_eq x z q) ∙ p))
    go true p false q h r = r h
    go false p true q h r = rw q refl
    go false p false q h r = rw q (r h)

all_still : (y : List ℕ) (xs ss : List (List ℕ)) → any (same y) ss ≡ false → all (λ s. any (same s) xs) ss ≡ true → all (λ s. any (same s) (without y xs)) ss ≡ true
all_still y xs [] n h = refl
all_still y xs (s ∷ ss) n h =
    let p = neither (same y s) (any (same y) ss) n in
    let q = both (any (same s) xs) (all (λ r. any (same r) xs) ss) h in
    join (any (same s) (without y xs)) (all (λ r. any (same r) (without y xs)) ss) (still s y xs p.0 q.0) (all_still y xs ss p.1 q.1)

pub distinct_few : (xs ss : List (List ℕ)) → all (λ s. any (same s) xs) ss ≡ true → distinct_short ss ≤ length xs
unfolding distinct_short
distinct_few xs [] h = omega arith
distinct_few xs (s ∷ ss) h = go (is_short s) (any (same s) ss) refl (λ n. distinct_few (without s xs) ss (all_still s xs ss n q.1)) (distinct_few xs ss q.1)
  where
    q : (any (same s) xs ≡ true) × (all (λ r. any (same r) xs) ss ≡ true)
    q = both (any (same s) xs) (all (λ r. any (same r) xs) ss) h

    go : (x y : Bool) → any (same s) ss ≡ y → (any (same s) ss ≡ false → distinct_short ss ≤ length (without s xs)) → distinct_short ss ≤ length xs
        → cond (x && not y) (suc (distinct_short ss)) (distinct_short ss) ≤ length xs
    go true false e r f = let w = one_without s xs q.0 in let z = r e in omega (arith, w, z)
    go true true e r f = f
    go false y e r f = f

-- ---- the strings of a table

-- the strings that the slots name, in slot order
unfoldable pub entries : List (List ℕ) → List ℕ → List (List ℕ)
entries strings [] = []
entries strings (zero ∷ t) = entries strings t
entries strings (suc i ∷ t) = get_or strings i [] ∷ entries strings t

pub entries_taken : (strings : List (List ℕ)) (t : List ℕ) → length (entries strings t) ≡ taken t
unfolding entries taken
entries_taken strings [] = refl
entries_taken strings (zero ∷ t) = entries_taken strings t
entries_taken strings (suc i ∷ t) = ap suc (entries_taken strings t)

pub entries_zeros : (strings : List (List ℕ)) (n : ℕ) → entries strings (replicate n 0) ≡ []
unfolding entries
entries_zeros strings zero = refl
entries_zeros strings (suc n) = entries_zeros strings n

-- strings that come behind are not named yet
pub entries_grown : (strings more : List (List ℕ)) (t : List ℕ) → Below (length strings) t → entries (strings ++ more) t ≡ entries strings t
unfolding entries
entries_grown strings more [] b = refl
entries_grown strings more (zero ∷ t) b = entries_grown strings more t (both (leb 0 (length strings)) _ b).1
entries_grown strings more (suc i ∷ t) b =
    let s = both (leb (suc i) (length strings)) _ b in
    let h = leb-true (suc i) (length strings) s.0 in
    ap₂ (λ (x : List ℕ) (l : List (List ℕ)). x ∷ l) (get_or-append strings more [] i (omega arith)) (entries_grown strings more t s.1)

-- an empty slot filled by string i
module _ (strings : List (List ℕ)) (i : ℕ) where
  abbrev own : List ℕ
  own = get_or strings i []

  abbrev filled : List ℕ → ℕ → List (List ℕ)
  filled t p = entries strings (set t p (suc i))

  pub any_filled : (q : List ℕ → Bool) (t : List ℕ) (p : ℕ) → p < length t → get_or t p 0 ≡ 0 → any q (filled t p) ≡ any q (entries strings t) || q own
  unfolding entries
  any_filled q [] p h e = absurd (omega arith)
  any_filled q (zero ∷ t) zero h e = swap (q own) (any q (entries strings t))
    where
      swap : (x y : Bool) → x || y ≡ y || x
      swap true true = refl
      swap true false = refl
      swap false true = refl
      swap false false = refl
  any_filled q (suc j ∷ t) zero h e = absurd (omega (arith, e))
  any_filled q (zero ∷ t) (suc p) h e = any_filled q t p (omega arith) e
  any_filled q (suc j ∷ t) (suc p) h e = go (q (get_or strings j [])) (any_filled q t p (omega arith) e)
    where
      go : (x : Bool) → any q (filled t p) ≡ any q (entries strings t) || q own → x || any q (filled t p) ≡ (x || any q (entries strings t)) || q own
      go true r = refl
      go false r = r

  pub all_filled : (q : List ℕ → Bool) (t : List ℕ) (p : ℕ) → all q (entries strings t) ≡ true → q own ≡ true → all q (filled t p) ≡ true
  unfolding entries
  all_filled q [] p h e = refl
  all_filled q (zero ∷ t) zero h e = join (q own) (all q (entries strings t)) e h
  all_filled q (suc j ∷ t) zero h e = join (q own) (all q (entries strings t)) e (both (q (get_or strings j [])) (all q (entries strings t)) h).1
  all_filled q (zero ∷ t) (suc p) h e = all_filled q t p h e
  all_filled q (suc j ∷ t) (suc p) h e =
      let s = both (q (get_or strings j [])) (all q (entries strings t)) h in
      join (q (get_or strings j [])) (all q (filled t p)) s.0 (all_filled q t p s.1 e)

  pub distinct_filled : (t : List ℕ) (p : ℕ) → p < length t → get_or t p 0 ≡ 0 → Distinct (entries strings t) → any (same own) (entries strings t) ≡ false → Distinct (filled t p)
  unfolding entries
  distinct_filled [] p h e a n = tt
  distinct_filled (zero ∷ t) zero h e a n = (n, a)
  distinct_filled (suc j ∷ t) zero h e a n = absurd (omega (arith, e))
  distinct_filled (zero ∷ t) (suc p) h e a n = distinct_filled t p (omega arith) e a n
  distinct_filled (suc j ∷ t) (suc p) h e a n =
      let s = neither (same own (get_or strings j [])) (any (same own) (entries strings t)) n in
      let x = any_filled (same (get_or strings j [])) t p (omega arith) e in
      (x ∙ rw (a.0, same_sym (get_or strings j []) own ∙ s.0) refl, distinct_filled t p (omega arith) e a.1 s.1)
