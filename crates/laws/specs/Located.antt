-- Section 7's splice, for every kind of list at once: what a merge keeps, places and moves, beside a cut and in the two orders
-- of two merges.
use Rattle.std.specs.Prelude.{◌≡◌, Bool, ◌&&◌, leb, ltb}
use Rattle.std.proofs.Math.Path.{refl, sym, ap, ap₂}
use Rattle.std.proofs.Common.{◌∙◌, arith}
use Prim.Native.Nat.{ℕ, suc, ◌+◌, ◌≤◌, ◌<◌}
use Rattle.std.proofs.Math.Bool.{true, false, not}
use mathlib.Core.List.{List, [], ◌∷◌, ◌++◌, append_assoc, append-nil, map, cons≢nil}
use borrow.Author.Tests.{leb-true, leb-false, ltb-true, ltb-false, le-leb, lt-leb, le-ltb, lt-ltb, not-true}
use Rattle.model.specs.Lists.{all, any, keep, is_empty}
use Rattle.model.specs.Region.{across}
use Rattle.model.specs.Merge.{MergeWindow, Located, kept_before, kept_behind, spliced}
use Rattle.model.specs.Once.{on_both_sides}
use Rattle.facts.specs.Truth.{both, not_both, same_le, and_false}
use Rattle.facts.specs.Lists.{map_append, map_map}
use Rattle.facts.specs.Keep.{all_append, all_map, keep_append, keep_map, keep_same, keep_none, keep_all, keep_keep, keep_comm, map_same, all_kept, all_map_is, any_is, any_all}

abbrev pub start_of : {A : Type 0} → Located A → A → ℕ
start_of l x = (l.place x).start

abbrev pub end_of : {A : Type 0} → Located A → A → ℕ
end_of l x = (l.place x).end

-- the tests of what is kept
abbrev pub is_before : {A : Type 0} → Located A → MergeWindow → A → Bool
is_before l w x = leb (end_of l x) (l.window w).start

abbrev pub is_behind : {A : Type 0} → Located A → MergeWindow → A → Bool
is_behind l w x = leb (l.window w).end (start_of l x)

-- Does an element count on one side at most?
abbrev pub one_side : {A : Type 0} → Located A → MergeWindow → A → Bool
one_side l w x = not (is_before l w x && is_behind l w x)

-- no element is empty
abbrev pub Wide : {A : Type 0} → Located A → (A → Bool) → Type 0
Wide {A} l ok = (x : A) → ok x ≡ true → start_of l x < end_of l x

-- A test of every element of a merged list.
pub spliced_all : {A : Type 0} (l : Located A) (w : MergeWindow) (ok okR ok' : A → Bool)
    → ((x : A) → ok x ≡ true → end_of l x ≤ (l.window w).start → ok' x ≡ true)
    → ((x : A) → okR x ≡ true → ok' (l.placed w x) ≡ true)
    → ((x : A) → ok x ≡ true → (l.window w).end ≤ start_of l x → ok' (l.moved w x) ≡ true)
    → (old reading : List A) → all ok old ≡ true → all okR reading ≡ true → all ok' (spliced l w old reading) ≡ true
unfolding spliced kept_before kept_behind
spliced_all {A} l w ok okR ok' h₀ h₁ h₂ old reading a r =
    let front = keep (is_before l w) old in
    let rest = keep (is_behind l w) old in
    all_append ok' front (map (l.placed w) reading ++ map (l.moved w) rest)
    (all_map (λ x. ok x && is_before l w x) ok' (λ x t. let s = both (ok x) (is_before l w x) t in h₀ x s.0 (leb-true (end_of l x) (l.window w).start s.1)) front (all_kept ok (is_before l w) old a))
    (all_append ok' (map (l.placed w) reading) (map (l.moved w) rest)
    (all_map_is ok' (l.placed w) reading ∙ all_map okR (λ x. ok' (l.placed w x)) h₁ reading r)
    (all_map_is ok' (l.moved w) rest
    ∙ all_map (λ x. ok x && is_behind l w x) (λ x. ok' (l.moved w x)) (λ x t. let s = both (ok x) (is_behind l w x) t in h₂ x s.0 (leb-true (l.window w).end (start_of l x) s.1)) rest (all_kept ok (is_behind l w) old a)))

-- What a merge does to the places of a kind's elements: one of the old book behind the region goes + p − q; one of the reading, in a
-- text of this size, goes + the region's start.
pub record Carried {A : Type 0} (l : Located A) (w : MergeWindow) (ok okR : A → Bool) (size p q : ℕ) : Type 0 where
  pub rising : (l.window w).start ≤ (l.window w).end
  pub sizes : (l.window w).start + size + q ≡ (l.window w).end + p
  pub inside : (x : A) → okR x ≡ true → end_of l x ≤ size
  pub moved_start : (x : A) → ok x ≡ true → (l.window w).end ≤ start_of l x → start_of l (l.moved w x) + q ≡ start_of l x + p
  pub moved_end : (x : A) → ok x ≡ true → (l.window w).end ≤ start_of l x → end_of l (l.moved w x) + q ≡ end_of l x + p
  pub placed_start : (x : A) → okR x ≡ true → start_of l (l.placed w x) ≡ start_of l x + (l.window w).start
  pub placed_end : (x : A) → okR x ≡ true → end_of l (l.placed w x) ≡ end_of l x + (l.window w).start

-- The same of a kind whose elements are not empty: all but diagnostics.
pub record CarriedWide {A : Type 0} (l : Located A) (w : MergeWindow) (ok okR : A → Bool) (size p q : ℕ) : Type 0 where
  pub carried : Carried l w ok okR size p q
  pub wide : Wide l ok
  pub wide_read : Wide l okR

module _ {A : Type 0} {l : Located A} {w : MergeWindow} {ok okR : A → Bool} {size p q : ℕ} (m : CarriedWide l w ok okR size p q) (old reading : List A) (a : all ok old ≡ true) (r : all okR reading ≡ true) where
  c : Carried l w ok okR size p q
  c = m.carried

  -- ---- beside a cut at or before the region

  -- Where a test fails at and behind the region's start, and no old element that passes goes past it, the test keeps the same.
  pub keep_front : (t clear : A → Bool) → ((x : A) → (l.window w).start ≤ start_of l x → start_of l x < end_of l x → t x ≡ false)
      → ((x : A) → clear x ≡ true → t x ≡ true → end_of l x ≤ (l.window w).start)
      → all clear old ≡ true → keep t (spliced l w old reading) ≡ keep t old
  unfolding spliced kept_before kept_behind
  keep_front t clear fails ends k =
      let front = keep (is_before l w) old in
      let rest = keep (is_behind l w) old in
      let placed = map (l.placed w) reading in
      let moved = map (l.moved w) rest in
      let e₁ : keep t front ≡ keep t old = keep_keep clear t (is_before l w) (λ x o h. le-leb (end_of l x) (l.window w).start (ends x o h)) old k in
      let e₂ : keep t placed ≡ [] = keep_map t (l.placed w) reading ∙ ap (map (l.placed w)) (keep_none okR (λ x. t (l.placed w x)) in_placed reading r) in
      let e₃ : keep t moved ≡ [] = keep_map t (l.moved w) rest ∙ ap (map (l.moved w)) (keep_none (λ x. ok x && is_behind l w x) (λ x. t (l.moved w x)) in_moved rest (all_kept ok (is_behind l w) old a)) in
      keep_append t front (placed ++ moved) ∙ ap₂ (λ (x y : List A). x ++ y) e₁ (keep_append t placed moved ∙ ap₂ (λ (x y : List A). x ++ y) e₂ e₃) ∙ append-nil (keep t old)
    where
      in_placed : (x : A) → okR x ≡ true → t (l.placed w x) ≡ false
      in_placed x o =
          let s = m.wide_read x o in
          let b = c.placed_start x o in
          let d = c.placed_end x o in
          fails (l.placed w x) (omega arith) (omega arith)

      in_moved : (x : A) → ok x && is_behind l w x ≡ true → t (l.moved w x) ≡ false
      in_moved x o =
          let s = both (ok x) (is_behind l w x) o in
          let k = leb-true (l.window w).end (start_of l x) s.1 in
          let g = m.wide x s.0 in
          let b = c.moved_start x s.0 k in
          let d = c.moved_end x s.0 k in
          fails (l.moved w x) (omega arith) (omega arith)

  abbrev pub across_at : ℕ → A → Bool
  across_at o x = across o (start_of l x) (end_of l x)

  -- ---- behind the region

  abbrev pub new_end : ℕ
  new_end = (l.window w).start + size

  moved_kept : (t t' : A → Bool) → ((x : A) → ok x ≡ true → (l.window w).end ≤ start_of l x → t' (l.moved w x) ≡ t x)
      → keep t' (map (l.moved w) (keep (is_behind l w) old)) ≡ map (l.moved w) (keep t (keep (is_behind l w) old))
  moved_kept t t' h =
      keep_map t' (l.moved w) (keep (is_behind l w) old)
      ∙ ap (map (l.moved w)) (keep_same (λ x. ok x && is_behind l w x) (λ x. t' (l.moved w x)) t (λ x o. let s = both (ok x) (is_behind l w x) o in
      h x s.0 (leb-true (l.window w).end (start_of l x) s.1)) (keep (is_behind l w) old) (all_kept ok (is_behind l w) old a))

  -- Where a test passes all that ends by the region's new end, and says of a moved element what t said of the old one.
  pub keep_rest : (t t' : A → Bool) → ((x : A) → start_of l x < end_of l x → end_of l x ≤ new_end → t' x ≡ true)
      → ((x : A) → ok x ≡ true → (l.window w).end ≤ start_of l x → t' (l.moved w x) ≡ t x)
      → keep t' (spliced l w old reading) ≡ kept_before l w old ++ (map (l.placed w) reading ++ map (l.moved w) (keep t (kept_behind l w old)))
  unfolding spliced kept_before kept_behind
  keep_rest t t' passes h =
      let front = keep (is_before l w) old in
      let placed = map (l.placed w) reading in
      let moved = map (l.moved w) (keep (is_behind l w) old) in
      let e₁ : keep t' front ≡ front = keep_all (λ x. ok x && is_before l w x) t' in_front front (all_kept ok (is_before l w) old a) in
      let e₂ : keep t' placed ≡ placed = keep_map t' (l.placed w) reading ∙ ap (map (l.placed w)) (keep_all okR (λ x. t' (l.placed w x)) in_placed reading r) in
      keep_append t' front (placed ++ moved) ∙ ap₂ (λ (x y : List A). x ++ y) e₁ (keep_append t' placed moved ∙ ap₂ (λ (x y : List A). x ++ y) e₂ (moved_kept t t' h))
    where
      in_front : (x : A) → ok x && is_before l w x ≡ true → t' x ≡ true
      in_front x o = let s = both (ok x) (is_before l w x) o in let k = leb-true (end_of l x) (l.window w).start s.1 in passes x (m.wide x s.0) (omega arith)

      in_placed : (x : A) → okR x ≡ true → t' (l.placed w x) ≡ true
      in_placed x o =
          let s = m.wide_read x o in
          let i = c.inside x o in
          let b = c.placed_start x o in
          let d = c.placed_end x o in
          passes (l.placed w x) (omega arith) (omega arith)

  -- ---- elements across a cut

  pub across_front : (o : ℕ) → o ≤ (l.window w).start → any (across_at (l.window w).start) old ≡ false → any (across_at o) (spliced l w old reading) ≡ any (across_at o) old
  across_front o h n =
      any_is (across_at o) (spliced l w old reading)
      ∙ ap (λ (k : List A). not (is_empty k)) (keep_front (across_at o) (λ x. not (across_at (l.window w).start x)) fails ends (any_all (across_at (l.window w).start) old n))
      ∙ sym (any_is (across_at o) old)
    where
      fails : (x : A) → (l.window w).start ≤ start_of l x → start_of l x < end_of l x → across_at o x ≡ false
      fails x k g = rw (le-ltb (start_of l x) o (omega arith))

      ends : (x : A) → not (across_at (l.window w).start x) ≡ true → across_at o x ≡ true → end_of l x ≤ (l.window w).start
      ends x k t =
          let s = ltb-true (start_of l x) o (both (ltb (start_of l x) o) (ltb o (end_of l x)) t).0 in
          let z : ltb (l.window w).start (end_of l x) ≡ false = rw (lt-ltb (start_of l x) (l.window w).start (omega arith)) at (not-true (across_at (l.window w).start x) k) in
          ltb-false (l.window w).start (end_of l x) z

  pub across_rest : (k : ℕ) → any (across_at (l.window w).end) old ≡ false → any (across_at (new_end + suc k)) (spliced l w old reading) ≡ any (across_at ((l.window w).end + suc k)) old
  unfolding spliced kept_before kept_behind
  across_rest k n =
      let o : ℕ = (l.window w).end + suc k in
      let o' : ℕ = new_end + suc k in
      let front = keep (is_before l w) old in
      let rest = keep (is_behind l w) old in
      let placed = map (l.placed w) reading in
      let moved = map (l.moved w) rest in
      let e₁ : keep (across_at o') front ≡ [] = keep_none (λ x. ok x && is_before l w x) (across_at o') in_front front (all_kept ok (is_before l w) old a) in
      let e₂ : keep (across_at o') placed ≡ [] = keep_map (across_at o') (l.placed w) reading ∙ ap (map (l.placed w)) (keep_none okR (λ x. across_at o' (l.placed w x)) in_placed reading r) in
      let e₃ : keep (across_at o') moved ≡ map (l.moved w) (keep (across_at o) rest) = moved_kept (across_at o) (across_at o') in_moved in
      let e₄ : keep (across_at o) rest ≡ keep (across_at o) old = keep_keep (λ x. not (across_at (l.window w).end x)) (across_at o) (is_behind l w) in_old_lem old (any_all (across_at (l.window w).end) old n) in
      let e₅ : keep (across_at o') (front ++ (placed ++ moved)) ≡ map (l.moved w) (keep (across_at o) old) =
      keep_append (across_at o') front (placed ++ moved) ∙ ap₂ (λ (x y : List A). x ++ y) e₁ (keep_append (across_at o') placed moved ∙ ap₂ (λ (x y : List A). x ++ y) e₂ (e₃ ∙ ap (map (l.moved w)) e₄)) in
      any_is (across_at o') (front ++ (placed ++ moved)) ∙ ap (λ (z : List A). not (is_empty z)) e₅ ∙ ap not (empty_map (keep (across_at o) old)) ∙ sym (any_is (across_at o) old)
    where
      empty_map : (z : List A) → is_empty (map (l.moved w) z) ≡ is_empty z
      empty_map [] = refl
      empty_map (x ∷ z) = refl

      in_front : (x : A) → ok x && is_before l w x ≡ true → across_at (new_end + suc k) x ≡ false
      in_front x o =
          let h = leb-true (end_of l x) (l.window w).start (both (ok x) (is_before l w x) o).1 in
          and_false (ltb (start_of l x) (new_end + suc k)) (ltb (new_end + suc k) (end_of l x)) (le-ltb (new_end + suc k) (end_of l x) (omega arith))

      in_placed : (x : A) → okR x ≡ true → across_at (new_end + suc k) (l.placed w x) ≡ false
      in_placed x o =
          let i = c.inside x o in
          let d = c.placed_end x o in
          and_false (ltb (start_of l (l.placed w x)) (new_end + suc k)) (ltb (new_end + suc k) (end_of l (l.placed w x))) (le-ltb (new_end + suc k) (end_of l (l.placed w x)) (omega arith))

      in_moved : (x : A) → ok x ≡ true → (l.window w).end ≤ start_of l x → across_at (new_end + suc k) (l.moved w x) ≡ across_at ((l.window w).end + suc k) x
      in_moved x o h =
          let b = c.moved_start x o h in
          let d = c.moved_end x o h in
          ap₂ (λ (s t : Bool). s && t) (same_le (suc (start_of l (l.moved w x))) (new_end + suc k) (suc (start_of l x)) ((l.window w).end + suc k) (omega arith) (omega arith))
          (same_le (suc (new_end + suc k)) (end_of l (l.moved w x)) (suc ((l.window w).end + suc k)) (end_of l x) (omega arith) (omega arith))

      in_old_lem : (x : A) → not (across_at (l.window w).end x) ≡ true → across_at ((l.window w).end + suc k) x ≡ true → is_behind l w x ≡ true
      in_old_lem x o t = go (is_behind l w x) refl
        where
          go : (b : Bool) → is_behind l w x ≡ b → b ≡ true
          go true e = refl
          go false e =
              let h = leb-false (l.window w).end (start_of l x) e in
              let z : ltb (l.window w).end (end_of l x) ≡ false = rw (lt-ltb (start_of l x) (l.window w).end h) at (not-true (across_at (l.window w).end x) o) in
              let u = ltb-false (l.window w).end (end_of l x) z in
              let v = ltb-true ((l.window w).end + suc k) (end_of l x) (both (ltb (start_of l x) ((l.window w).end + suc k)) (ltb ((l.window w).end + suc k) (end_of l x)) t).1 in
              absurd (omega arith)

-- ---- sides

module _ {A : Type 0} (l : Located A) (w : MergeWindow) where
  -- an element that is not empty
  wide_side : (l.window w).start ≤ (l.window w).end → (x : A) → start_of l x < end_of l x → one_side l w x ≡ true
  wide_side h x g = go (is_before l w x) refl
    where
      go : (s : Bool) → is_before l w x ≡ s → not (s && is_behind l w x) ≡ true
      go true e = let k = leb-true (end_of l x) (l.window w).start e in rw (lt-leb (l.window w).end (start_of l x) (omega arith)) refl
      go false e = refl

  -- A list whose elements count on one side at most.
  pub kept_once : (old : List A) → all (one_side l w) old ≡ true → on_both_sides l w old ≡ []
  unfolding on_both_sides kept_before kept_behind
  kept_once old h =
      keep_none (λ x. one_side l w x && is_behind l w x) (is_before l w) (λ x t. let s = both (one_side l w x) (is_behind l w x) t in not_both (is_before l w x) (is_behind l w x) s.0 s.1)
      (keep (is_behind l w) old) (all_kept (one_side l w) (is_behind l w) old h)

  -- A list without empty elements.
  pub wide_once : {ok : A → Bool} → Wide l ok → (l.window w).start ≤ (l.window w).end → (old : List A) → all ok old ≡ true → on_both_sides l w old ≡ []
  wide_once {ok} wide h old a = kept_once old (all_map ok (one_side l w) (λ x o. wide_side h x (wide x o)) old a)

  -- What is on both sides of a list, its parts have there.
  once_parts : (a b : List A) → on_both_sides l w (a ++ b) ≡ [] → (on_both_sides l w a ≡ []) × (on_both_sides l w b ≡ [])
  unfolding on_both_sides kept_before kept_behind
  once_parts a b e =
      empty_parts (on_both_sides l w a) (on_both_sides l w b)
      (sym (ap (keep (is_before l w)) (keep_append (is_behind l w) a b) ∙ keep_append (is_before l w) (keep (is_behind l w) a) (keep (is_behind l w) b)) ∙ e)
    where
      empty_parts : (a b : List A) → a ++ b ≡ [] → (a ≡ []) × (b ≡ [])
      empty_parts [] b e = (refl, e)
      empty_parts (x ∷ a) b e = absurd (cons≢nil e)

  -- Where all counts on one side, nothing counts on the other.
  none_behind : (a : List A) → on_both_sides l w a ≡ [] → keep (is_before l w) a ≡ a → keep (is_behind l w) a ≡ []
  unfolding on_both_sides kept_before kept_behind
  none_behind a e f = ap (keep (is_behind l w)) (sym f) ∙ keep_comm (is_behind l w) (is_before l w) a ∙ e

  none_before : (a : List A) → on_both_sides l w a ≡ [] → keep (is_behind l w) a ≡ a → keep (is_before l w) a ≡ []
  unfolding on_both_sides kept_before kept_behind
  none_before a e f = ap (keep (is_before l w)) (sym f) ∙ e

-- ---- two merges

-- Two regions, the second behind the first: E the first merge, L the second, L' the second once E has moved it.
module _ {A : Type 0} {l : Located A} {w_e w_l : MergeWindow} (w_l' : MergeWindow) {ok okE okL : A → Bool} {sE p_e q_e sL pL qL : ℕ} (cE : Carried l w_e ok okE sE p_e q_e) (cL : Carried l w_l ok okL sL pL qL)
    (apart : (l.window w_e).end ≤ (l.window w_l).start)
    (start' : (l.window w_l').start + q_e ≡ (l.window w_l).start + p_e) (end' : (l.window w_l').end + q_e ≡ (l.window w_l).end + p_e)
    (twice : (x : A) → ok x ≡ true → (l.window w_l).end ≤ start_of l x → l.moved w_l' (l.moved w_e x) ≡ l.moved w_e (l.moved w_l x))
    (again : (x : A) → okL x ≡ true → l.placed w_l' x ≡ l.moved w_e (l.placed w_l x)) where
  -- what passes two tests, with what they say
  given : {B : Type 0} (ok p : A → Bool) (f g : A → B) → ((x : A) → ok x ≡ true → p x ≡ true → f x ≡ g x) → (x : A) → ok x && p x ≡ true → f x ≡ g x
  given ok p f g e x t = let s = both (ok x) (p x) t in e x s.0 s.1

  -- The two orders give one list, if beside the second merge's region no element counts on both sides.
  pub two_orders : (old RE RL : List A) → all ok old ≡ true → all okE RE ≡ true → all okL RL ≡ true
      → on_both_sides l w_l' (spliced l w_e old RE) ≡ [] → on_both_sides l w_e (spliced l w_l old RL) ≡ []
      → spliced l w_l' (spliced l w_e old RE) RL ≡ spliced l w_e (spliced l w_l old RL) RE
  unfolding spliced kept_before kept_behind
  two_orders old RE RL a aE aL once_l once_e =
      let b_e = is_before l w_e in
      let hE = is_behind l w_e in
      let b_l = is_before l w_l in
      let hL = is_behind l w_l in
      let bL' = is_before l w_l' in
      let hL' = is_behind l w_l' in
      let mE = l.moved w_e in
      let mL = l.moved w_l in
      let front = keep b_e old in
      let rest = keep hE old in
      let far = keep hL old in
      let PE = map (l.placed w_e) RE in
      let PL = map (l.placed w_l) RL in
      let PL' = map (l.placed w_l') RL in
      let oF = all_kept ok b_e old a in
      let oR = all_kept ok hE old a in
      let oK = all_kept ok hL old a in
      -- no part of a merged list counts on both sides
      let o₁ = once_parts l w_l' front (PE ++ map mE rest) once_l in
      let o₂ = once_parts l w_l' PE (map mE rest) o₁.1 in
      let o₃ = once_parts l w_e (keep b_l old) (PL ++ map mL far) once_e in
      let o₄ = once_parts l w_e PL (map mL far) o₃.1 in
      -- after E
      let f₁ : keep bL' front ≡ front = keep_all (λ x. ok x && b_e x) bL' (given ok b_e bL' (λ x. true) front_before) front oF in
      let f₂ : keep hL' front ≡ [] = none_behind l w_l' front o₁.0 f₁ in
      let p₁ : keep bL' PE ≡ PE = keep_map bL' (l.placed w_e) RE ∙ ap (map (l.placed w_e)) (keep_all okE (λ x. bL' (l.placed w_e x)) placed_before RE aE) in
      let p₂ : keep hL' PE ≡ [] = none_behind l w_l' PE o₂.0 p₁ in
      let r₁ : keep bL' (map mE rest) ≡ map mE (keep b_l rest) = keep_map bL' mE rest ∙ ap (map mE) (keep_same (λ x. ok x && hE x) (λ x. bL' (mE x)) b_l (given ok hE (λ x. bL' (mE x)) b_l rest_before) rest oR) in
      let r₂ : keep hL' (map mE rest) ≡ map mE far =
      keep_map hL' mE rest ∙ ap (map mE) (keep_same (λ x. ok x && hE x) (λ x. hL' (mE x)) hL (given ok hE (λ x. hL' (mE x)) hL rest_behind) rest oR ∙ keep_keep ok hL hE (λ x o h. nested_behind x h) old a) in
      let before₁ : keep bL' (front ++ (PE ++ map mE rest)) ≡ front ++ (PE ++ map mE (keep b_l rest)) =
      keep_append bL' front (PE ++ map mE rest) ∙ ap₂ (λ (x y : List A). x ++ y) f₁ (keep_append bL' PE (map mE rest) ∙ ap₂ (λ (x y : List A). x ++ y) p₁ r₁) in
      let behind₁ : keep hL' (front ++ (PE ++ map mE rest)) ≡ map mE far =
      keep_append hL' front (PE ++ map mE rest) ∙ ap₂ (λ (x y : List A). x ++ y) f₂ (keep_append hL' PE (map mE rest) ∙ ap₂ (λ (x y : List A). x ++ y) p₂ r₂) in
      -- after L
      let g₁ : keep b_e (keep b_l old) ≡ front = keep_keep ok b_e b_l (λ x o h. nested_before x h) old a in
      let q₂ : keep hE PL ≡ PL = keep_map hE (l.placed w_l) RL ∙ ap (map (l.placed w_l)) (keep_all okL (λ x. hE (l.placed w_l x)) placed_l_behind RL aL) in
      let q₁ : keep b_e PL ≡ [] = none_before l w_e PL o₄.0 q₂ in
      let s₂ : keep hE (map mL far) ≡ map mL far = keep_map hE mL far ∙ ap (map mL) (keep_all (λ x. ok x && hL x) (λ x. hE (mL x)) (given ok hL (λ x. hE (mL x)) (λ x. true) rest_l_behind) far oK) in
      let s₁ : keep b_e (map mL far) ≡ [] = none_before l w_e (map mL far) o₄.1 s₂ in
      let before₂ : keep b_e (keep b_l old ++ (PL ++ map mL far)) ≡ front =
      keep_append b_e (keep b_l old) (PL ++ map mL far) ∙ ap₂ (λ (x y : List A). x ++ y) g₁ (keep_append b_e PL (map mL far) ∙ ap₂ (λ (x y : List A). x ++ y) q₁ s₁) ∙ append-nil front in
      let behind₂ : keep hE (keep b_l old ++ (PL ++ map mL far)) ≡ keep b_l rest ++ (PL ++ map mL far) =
      keep_append hE (keep b_l old) (PL ++ map mL far) ∙ ap₂ (λ (x y : List A). x ++ y) (keep_comm hE b_l old) (keep_append hE PL (map mL far) ∙ ap₂ (λ (x y : List A). x ++ y) q₂ s₂) in
      -- the moves
      let placed : PL' ≡ map mE PL = map_same okL (l.placed w_l') (λ x. mE (l.placed w_l x)) again RL aL ∙ sym (map_map mE (l.placed w_l) RL) in
      let both_moves : map (l.moved w_l') (map mE far) ≡ map mE (map mL far) =
      map_map (l.moved w_l') mE far ∙ map_same (λ x. ok x && hL x) (λ x. l.moved w_l' (mE x)) (λ x. mE (mL x)) (given ok hL (λ x. l.moved w_l' (mE x)) (λ x. mE (mL x)) moved_twice) far oK ∙ sym (map_map mE mL far) in
      let right : map mE (keep b_l rest ++ (PL ++ map mL far)) ≡ map mE (keep b_l rest) ++ (map mE PL ++ map mE (map mL far)) =
      map_append mE (keep b_l rest) (PL ++ map mL far) ∙ ap (λ (k : List A). map mE (keep b_l rest) ++ k) (map_append mE PL (map mL far)) in
      ap₂ (λ (x y : List A). x ++ (PL' ++ map (l.moved w_l') y)) before₁ behind₁
      ∙ ap₂ (λ (x y : List A). (front ++ (PE ++ map mE (keep b_l rest))) ++ (x ++ y)) placed both_moves
      ∙ append_assoc front (PE ++ map mE (keep b_l rest)) (map mE PL ++ map mE (map mL far))
      ∙ ap (λ (k : List A). front ++ k) (append_assoc PE (map mE (keep b_l rest)) (map mE PL ++ map mE (map mL far)) ∙ ap (λ (k : List A). PE ++ k) (sym right))
      ∙ sym (ap₂ (λ (x y : List A). x ++ (PE ++ map mE y)) before₂ behind₂)
    where
      nested_before : (x : A) → is_before l w_e x ≡ true → is_before l w_l x ≡ true
      nested_before x h = let k = leb-true (end_of l x) (l.window w_e).start h in le-leb (end_of l x) (l.window w_l).start (omega arith)

      nested_behind : (x : A) → is_behind l w_l x ≡ true → is_behind l w_e x ≡ true
      nested_behind x h = let k = leb-true (l.window w_l).end (start_of l x) h in le-leb (l.window w_e).end (start_of l x) (omega arith)

      -- E's region does not end before it starts
      first : (l.window w_e).start + q_e ≤ (l.window w_e).end + p_e
      first = omega arith

      front_before : (x : A) → ok x ≡ true → is_before l w_e x ≡ true → is_before l w_l' x ≡ true
      front_before x o h = let k = leb-true (end_of l x) (l.window w_e).start h in let u = first in le-leb (end_of l x) (l.window w_l').start (omega arith)

      placed_before : (x : A) → okE x ≡ true → is_before l w_l' (l.placed w_e x) ≡ true
      placed_before x o = let i = cE.inside x o in let d = cE.placed_end x o in le-leb (end_of l (l.placed w_e x)) (l.window w_l').start (omega arith)

      rest_before : (x : A) → ok x ≡ true → is_behind l w_e x ≡ true → is_before l w_l' (l.moved w_e x) ≡ is_before l w_l x
      rest_before x o h =
          let d = cE.moved_end x o (leb-true (l.window w_e).end (start_of l x) h) in
          same_le (end_of l (l.moved w_e x)) (l.window w_l').start (end_of l x) (l.window w_l).start (omega arith) (omega arith)

      rest_behind : (x : A) → ok x ≡ true → is_behind l w_e x ≡ true → is_behind l w_l' (l.moved w_e x) ≡ is_behind l w_l x
      rest_behind x o h =
          let d = cE.moved_start x o (leb-true (l.window w_e).end (start_of l x) h) in
          same_le (l.window w_l').end (start_of l (l.moved w_e x)) (l.window w_l).end (start_of l x) (omega arith) (omega arith)

      placed_l_behind : (x : A) → okL x ≡ true → is_behind l w_e (l.placed w_l x) ≡ true
      placed_l_behind x o = let d = cL.placed_start x o in le-leb (l.window w_e).end (start_of l (l.placed w_l x)) (omega arith)

      rest_l_behind : (x : A) → ok x ≡ true → is_behind l w_l x ≡ true → is_behind l w_e (l.moved w_l x) ≡ true
      rest_l_behind x o h =
          let k = leb-true (l.window w_l).end (start_of l x) h in
          let d = cL.moved_start x o k in
          le-leb (l.window w_e).end (start_of l (l.moved w_l x)) (omega arith)

      moved_twice : (x : A) → ok x ≡ true → is_behind l w_l x ≡ true → l.moved w_l' (l.moved w_e x) ≡ l.moved w_e (l.moved w_l x)
      moved_twice x o h = twice x o (leb-true (l.window w_l).end (start_of l x) h)

  -- So do lists without empty elements.
  pub two_orders_wide : Wide l ok → Wide l okE → Wide l okL → (old RE RL : List A) → all ok old ≡ true → all okE RE ≡ true → all okL RL ≡ true
      → spliced l w_l' (spliced l w_e old RE) RL ≡ spliced l w_e (spliced l w_l old RL) RE
  two_orders_wide wide wide_e wide_l old RE RL a aE aL =
      let h = cL.rising in
      two_orders old RE RL a aE aL (after cE wide wide_e old RE a aE w_l' (omega arith)) (after cL wide wide_l old RL a aL w_e cE.rising)
    where
      -- a merged list, beside any region
      after : {w : MergeWindow} {okR : A → Bool} {size p q : ℕ} → Carried l w ok okR size p q → Wide l ok → Wide l okR → (old reading : List A) → all ok old ≡ true → all okR reading ≡ true
          → (w' : MergeWindow) → (l.window w').start ≤ (l.window w').end → on_both_sides l w' (spliced l w old reading) ≡ []
      after {w} {okR} c wide wide_read old reading a r w' h =
          kept_once l w' (spliced l w old reading) (spliced_all l w ok okR (one_side l w')
          (λ x o k. wide_side l w' h x (wide x o))
          (λ x o. wide_side l w' h (l.placed w x) (let g = wide_read x o in let s = c.placed_start x o in let t = c.placed_end x o in omega arith))
          (λ x o k. wide_side l w' h (l.moved w x) (let g = wide x o in let s = c.moved_start x o k in let t = c.moved_end x o k in omega arith))
          old reading a r)
