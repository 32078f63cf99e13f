-- A memo: entries of five words, what was found at a place of a level. What holds of every entry still holds when one is put, if it holds of that.
use Rattle.std.specs.Prelude.{◌≡◌, ℕ, suc, ◌+◌, ◌*◌, ◌≤◌, ◌<◌, Bool, true, false, cond, ◌&&◌, List, [], ◌∷◌, length, set, leb, ltb, eqb}
use Rattle.std.proofs.Math.Path.{refl}
use Rattle.std.proofs.Common.{sym, ap, ◌∙◌, subst, true≢false}
use native.Mathlib.Omega.{arith}
use Rattle.std.proofs.Math.ListN.{get_or}
use Rattle.std.proofs.lemmas.List.Edits.{sets-eq}
use borrow.Author.Tests.{le-leb, lt-leb, eq-eqb, ne_eqb, leb-true, ltb-true, ltb-false, eqb-true}
use Rattle.model.specs.Bytes.{zeros}
use Rattle.facts.specs.Truth.{both, by_bool}
use Rattle.facts.specs.Lists.{get_zeros}
use Rattle.wire.specs.Overwrite.{overwrite, get_d_overwrite, get_d_before, get_d_behind}

-- what was found at a place of a level; none where the level is 0
pub record Entry : Type 0 where
  pub place : ℕ
  pub level : ℕ
  pub contents : ℕ
  pub segments : ℕ
  pub calls : ℕ

-- the words of an entry
abbrev pub words_of : Entry → List ℕ
words_of x = x.place ∷ x.level ∷ x.contents ∷ x.segments ∷ x.calls ∷ []

-- entry e
unfoldable pub entry_in : List ℕ → ℕ → Entry
entry_in m e = record {
  place = get_or m (5 * e) 0;
  level = get_or m (5 * e + 1) 0;
  contents = get_or m (5 * e + 2) 0;
  segments = get_or m (5 * e + 3) 0;
  calls = get_or m (5 * e + 4) 0;
}

-- is entry e there, and of that place and level?
unfoldable pub is_of : List ℕ → ℕ → ℕ → ℕ → Bool
is_of m e place level = leb (5 * e + 5) (length m) && (eqb (entry_in m e).place place && eqb (entry_in m e).level level)

-- entry e put, if it is there
unfoldable pub put_in : List ℕ → ℕ → Entry → List ℕ
put_in m e x = cond (leb (5 * e + 5) (length m)) (overwrite m (5 * e) (words_of x)) m

pub is_place : (m : List ℕ) (e place level : ℕ) → is_of m e place level ≡ true → (entry_in m e).place ≡ place
unfolding is_of
is_place m e place level h =
    let b = both (leb (5 * e + 5) (length m)) _ h in
    eqb-true (entry_in m e).place place (both (eqb (entry_in m e).place place) (eqb (entry_in m e).level level) b.1).0

pub is_level : (m : List ℕ) (e place level : ℕ) → is_of m e place level ≡ true → (entry_in m e).level ≡ level
unfolding is_of
is_level m e place level h =
    let b = both (leb (5 * e + 5) (length m)) _ h in
    eqb-true (entry_in m e).level level (both (eqb (entry_in m e).place place) (eqb (entry_in m e).level level) b.1).1

pub is_there : (m : List ℕ) (e place level : ℕ) → is_of m e place level ≡ true → 5 * e + 5 ≤ length m
unfolding is_of
is_there m e place level h = leb-true (5 * e + 5) (length m) (both (leb (5 * e + 5) (length m)) _ h).0

-- an empty memo has no entry
pub none_in : (n e : ℕ) → (entry_in (zeros n) e).level ≡ 0
unfolding entry_in
none_in n e = get_zeros n (5 * e + 1)

-- ---- what holds of every entry

module _ (m : List ℕ) (e : ℕ) (x : Entry) (there : 5 * e + 5 ≤ length m) where
  abbrev after : List ℕ
  after = overwrite m (5 * e) (words_of x)

  same_entry : (i : ℕ) → ((j : ℕ) → j < 5 → get_or after (5 * i + j) 0 ≡ get_or m (5 * i + j) 0) → entry_in after i ≡ entry_in m i
  unfolding entry_in
  same_entry i h =
      let z : 5 * i + 0 ≡ 5 * i = omega arith in
      let a : get_or after (5 * i) 0 ≡ get_or m (5 * i) 0 = rw z at (h 0 (omega arith)) in
      λ k. record { place = a k; level = h 1 (omega arith) k; contents = h 2 (omega arith) k; segments = h 3 (omega arith) k; calls = h 4 (omega arith) k }

  word_put : (j : ℕ) → j < 5 → get_or after (5 * e + j) 0 ≡ get_or (words_of x) j 0
  word_put j h = get_d_overwrite m (5 * e) (words_of x) there j h

  put_same : entry_in after e ≡ x
  unfolding entry_in
  put_same =
      let z : 5 * e + 0 ≡ 5 * e = omega arith in
      let a : get_or after (5 * e) 0 ≡ x.place = rw z at (word_put 0 (omega arith)) in
      λ k. record { place = a k; level = word_put 1 (omega arith) k; contents = word_put 2 (omega arith) k; segments = word_put 3 (omega arith) k; calls = word_put 4 (omega arith) k }

  put_other : (i : ℕ) → (i ≡ e → ⊥) → entry_in after i ≡ entry_in m i
  put_other i n =
      by_bool (ltb i e)
      (λ q. let l = ltb-true i e q in same_entry i (λ j h. get_d_before m (5 * e) (words_of x) there (5 * i + j) (omega (arith, l, h))))
      (λ q. let l = ltb-false i e q in let b : e < i = by_bool (ltb e i) (λ g. ltb-true e i g) (λ g. let u = ltb-false e i g in absurd (n (omega (arith, l, u)))) in
      same_entry i (λ j h. get_d_behind m (5 * e) (words_of x) there (5 * i + j) (omega (arith, b))))

  every_there : (P : Entry → Type 0) → ((i : ℕ) → P (entry_in m i)) → P x → (i : ℕ) → P (entry_in after i)
  every_there P all new i =
      by_bool (eqb i e)
      (λ q. subst P (sym (ap (entry_in after) (eqb-true i e q) ∙ put_same)) new)
      (λ q. subst P (sym (put_other i (λ s. true≢false (sym (eq-eqb i e s) ∙ q)))) (all i))

pub every_put : (P : Entry → Type 0) (m : List ℕ) (e : ℕ) (x : Entry) → ((i : ℕ) → P (entry_in m i)) → P x → (i : ℕ) → P (entry_in (put_in m e x) i)
unfolding put_in
every_put P m e x all new i =
    by_bool (leb (5 * e + 5) (length m))
    (λ q. rw q (every_there m e x (leb-true (5 * e + 5) (length m) q) P all new i))
    (λ q. rw q (all i))

-- ---- the code's answers

pub put_none : (m : List ℕ) (e : ℕ) (x : Entry) → length m < 5 * e + 5 → m ≡ put_in m e x
unfolding put_in
put_none m e x h = rw (lt-leb (5 * e + 5) (length m) h) refl

pub put_there : (m : List ℕ) (e : ℕ) (x : Entry) → 5 * e + 5 ≤ length m
    → set (set (set (set (set m (5 * e) x.place) (5 * e + 1) x.level) (5 * e + 2) x.contents) (5 * e + 3) x.segments) (5 * e + 4) x.calls ≡ put_in m e x
unfolding put_in overwrite
put_there m e x h =
    let e1 : 5 * e + 1 ≡ suc (5 * e) = omega arith in
    let e2 : 5 * e + 2 ≡ suc (suc (5 * e)) = omega arith in
    let e3 : 5 * e + 3 ≡ suc (suc (suc (5 * e))) = omega arith in
    let e4 : 5 * e + 4 ≡ suc (suc (suc (suc (5 * e)))) = omega arith in
    rw (le-leb (5 * e + 5) (length m) h) (rw (e1, e2, e3, e4) (sets-eq (words_of x) m (5 * e) h))

module _ (m : List ℕ) (e place level : ℕ) where
  pub is_short_lem : length m < 5 * e + 5 → false ≡ is_of m e place level
  unfolding is_of
  is_short_lem h = rw (lt-leb (5 * e + 5) (length m) h) refl

  pub is_elsewhere : 5 * e + 5 ≤ length m → (get_or m (5 * e) 0 ≡ place → ⊥) → false ≡ is_of m e place level
  unfolding is_of entry_in
  is_elsewhere h n = rw (le-leb (5 * e + 5) (length m) h, ne_eqb (get_or m (5 * e) 0) place n) refl

  pub is_told : {r : Bool} → 5 * e + 5 ≤ length m → get_or m (5 * e) 0 ≡ place → r ≡ eqb (get_or m (5 * e + 1) 0) level → r ≡ is_of m e place level
  unfolding is_of entry_in
  is_told h p q = rw (le-leb (5 * e + 5) (length m) h, eq-eqb (get_or m (5 * e) 0) place p) q
