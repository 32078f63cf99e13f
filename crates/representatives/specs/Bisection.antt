-- How a pair is found by its id, where the ids of the pairs rise.
use Rattle.std.specs.Prelude.{◌≡◌, Option, Some, None, ℕ, ◌+◌, ◌*◌, ◌≤◌, ◌<◌, List, get_or, ltb}
use Rattle.std.proofs.Common.{ap, ◌∙◌, arith, ltb-true, ltb-false}
use Rattle.facts.specs.Truth.{by_bool}
use Rattle.span.specs.declared.StrId.{StrId}
use Rattle.representatives.specs.Pairs.{pairs_in}

-- the ids of the first m pairs rise
pub record Rising (words : List ℕ) (m : ℕ) : Type 0 where
  pub below : (i j : ℕ) → i < j → j < m → get_or words (2 * i + 1) 0 < get_or words (2 * j + 1) 0

-- where they do, those before `lo` are below id, those from `hi` on are not
pub record Split (words : List ℕ) (m id lo hi : ℕ) : Type 0 where
  pub few : (lo ≤ hi) × (hi ≤ m)
  pub before : Rising words m → (j : ℕ) → j < lo → get_or words (2 * j + 1) 0 < id
  pub behind : Rising words m → (j : ℕ) → hi ≤ j → j < m → id ≤ get_or words (2 * j + 1) 0

pub split_start : (words : List ℕ) (m id : ℕ) → Split words m id 0 m
split_start words m id = record { few = (omega arith, omega arith); before = λ r j h. absurd (omega (arith, h)); behind = λ r j h g. absurd (omega (arith, h, g)) }

module _ {words : List ℕ} {m id lo hi : ℕ} (split : Split words m id lo hi) (mid : ℕ) (h : (lo ≤ mid) × (mid < hi)) where
  at_or_less : Rising words m → (i j : ℕ) → i ≤ j → j < m → get_or words (2 * i + 1) 0 ≤ get_or words (2 * j + 1) 0
  at_or_less r i j g l =
      by_bool (ltb i j)
      (λ t. let b = r.below i j (ltb-true i j t) l in omega (arith, b))
      (λ f.
      let b = ltb-false i j f in
      let z : i ≡ j = omega (arith, b, g) in
      let e = ap (λ (k : ℕ). get_or words (2 * k + 1) 0) z in
      omega (arith, e))

  pub split_up : get_or words (2 * mid + 1) 0 < id → Split words m id (mid + 1) hi
  split_up t = record {
    few = (omega (arith, h), split.few.1);
    before = λ r j g. let b = at_or_less r j mid (omega (arith, g)) (omega (arith, h, split.few)) in omega (arith, b, t);
    behind = split.behind;
  }

  pub split_down : id ≤ get_or words (2 * mid + 1) 0 → Split words m id lo mid
  split_down t = record {
    few = (h.0, omega (arith, h, split.few));
    before = split.before;
    behind = λ r j g l. let b = at_or_less r mid j g l in omega (arith, b, t);
  }

-- ---- what is answered

-- an answer as the second word of a pair has it: plus 1, or 0 for none
abbrev pub as_word : Option StrId → ℕ
as_word (Some r) = r.0 + 1
as_word None = 0

-- for an id that has a pair, where they rise: the second word of the pair
pub record Known (words : List ℕ) (id r : ℕ) : Type 0 where
  pub is : Rising words (pairs_in words) → (j : ℕ) → j < pairs_in words → get_or words (2 * j + 1) 0 ≡ id → r ≡ get_or words (2 * j + 2) 0

module _ {words : List ℕ} {m : ℕ} (n : m ≡ pairs_in words) {id p : ℕ} (split : Split words m id p p) where
  place : Rising words (pairs_in words) → (j : ℕ) → j < pairs_in words → get_or words (2 * j + 1) 0 ≡ id → p ≡ j
  place rising j h e =
      let r : Rising words m = rw n rising in
      by_bool (ltb j p)
      (λ t. let b = split.before r j (ltb-true j p t) in absurd (omega (arith, b, e)))
      (λ f.
      let g = ltb-false j p f in
      by_bool (ltb p j)
      (λ t.
      let l = ltb-true p j t in
      let a = split.behind r p (omega arith) (omega (arith, l, h, n)) in
      let b = rising.below p j l h in
      absurd (omega (arith, a, b, e)))
      (λ u. let l = ltb-false p j u in omega (arith, g, l)))

  -- the returns of `representative`
  pub known_end : m ≤ p → {r : ℕ} → Known words id r
  known_end g = record { is = λ rising j h e. let z = place rising j h e in absurd (omega (arith, z, h, g, n)) }

  pub known_other : (get_or words (2 * p + 1) 0 ≡ id → ⊥) → {r : ℕ} → Known words id r
  known_other d = record { is = λ rising j h e. absurd (d (ap (λ (k : ℕ). get_or words (2 * k + 1) 0) (place rising j h e) ∙ e)) }

  pub known_here : {r : ℕ} → r ≡ get_or words (2 * p + 2) 0 → Known words id r
  known_here e = rw e here
    where
      here : Known words id (get_or words (2 * p + 2) 0)
      here = record { is = λ rising j h e. ap (λ (k : ℕ). get_or words (2 * k + 2) 0) (place rising j h e) }
