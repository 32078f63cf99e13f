-- What a loop over indices computes: definitions by the last index, as loops go, the laws by which a loop answers them, and how
-- they come to the list functions of the model.
use Prim.Native.Nat.{ℕ, zero, suc, ◌+◌, ◌*◌, ◌≤◌, ◌<◌}
use Rattle.std.specs.Prelude.{◌≡◌, Bool, ◌&&◌, ◌||◌, cond, length, get_or}
use Rattle.std.proofs.Math.Path.{refl, sym, ap}
use Rattle.std.proofs.Common.{◌∙◌, true≢false, le_of_suc-le-suc, eq-or-lt_of_le, mul-add, mul-one, below_more, length-append}
use Rattle.std.proofs.Math.Bool.{true, false, or-true, or-false, and-false, and-true}
use mathlib.Core.List.{List, [], ◌∷◌, ◌++◌}
use Rattle.std.proofs.Math.Option.{Option, none, some}
use Rattle.std.proofs.Math.Logic.{⊎_elim}
use native.Mathlib.Omega.{arith}
use Rattle.std.proofs.Math.Numerals.{add-one}
use Rattle.std.proofs.Math.ListN.{get_or-append}
use Rattle.std.proofs.Math.Seq.{get_or_at}
use Rattle.model.specs.Lists.{all, any, tabulate, sum}
use Rattle.facts.specs.Truth.{by_bool}
use Rattle.facts.specs.Lists.{sum_append, tabulate_last}
use Rattle.facts.specs.Keep.{all_append_is, any_append_is}
use Rattle.wire.specs.Overwrite.{overwrite, Wrote, wrote_none, wrote_next}

-- P holds at each index below n
unfoldable pub all_up_to : ℕ → (ℕ → Bool) → Bool
all_up_to zero P = true
all_up_to (suc n) P = all_up_to n P && P n

-- P holds at some index below n
unfoldable pub any_up_to : ℕ → (ℕ → Bool) → Bool
any_up_to zero P = false
any_up_to (suc n) P = any_up_to n P || P n

-- how many indices from 0 on pass P, at most n
unfoldable pub count_while : ℕ → (ℕ → Bool) → ℕ
count_while zero P = 0
count_while (suc n) P = cond (P 0) (suc (count_while n (λ (i : ℕ). P (suc i)))) 0

-- the last index below n that passes P
unfoldable pub last_up_to : ℕ → (ℕ → Bool) → Option ℕ
last_up_to zero P = none
last_up_to (suc n) P = cond (P n) (some n) (last_up_to n P)

-- the sum of f at the indices below n
unfoldable pub sum_to : ℕ → (ℕ → ℕ) → ℕ
sum_to zero f = 0
sum_to (suc n) f = sum_to n f + f n

-- f at the indices below n, in order
unfoldable pub list_to : ℕ → (ℕ → ℕ) → List ℕ
list_to zero f = []
list_to (suc n) f = list_to n f ++ (f n ∷ [])

-- the lists f 0, f 1, .., f (n - 1), joined
unfoldable pub concat_up_to : ℕ → (ℕ → List ℕ) → List ℕ
concat_up_to zero f = []
concat_up_to (suc n) f = concat_up_to n f ++ f n

-- ---- a test of every index

module _ (P : ℕ → Bool) where
  -- what a loop has shown when it has passed i indices
  pub record Passed (i : ℕ) : Type 0 where
    pub all : (k : ℕ) → k < i → P k ≡ true

  pub passed_none : Passed 0
  passed_none = record { all = λ k h. absurd (omega arith) }

  pub passed_more : (i : ℕ) → Passed i → P i ≡ true → Passed (i + 1)
  passed_more i p h = record { all = below_more (λ (k : ℕ). P k ≡ true) i p.all h }

  pub all_passed : (n : ℕ) → Passed n → all_up_to n P ≡ true
  unfolding all_up_to
  all_passed zero p = refl
  all_passed (suc n) p =
      let here : P n ≡ true = p.all n (omega arith) in
      let before : all_up_to n P ≡ true = all_passed n (record { all = λ k h. p.all k (omega arith) }) in
      rw (before, here) refl

  pub all_failed : (n i : ℕ) → i < n → P i ≡ false → all_up_to n P ≡ false
  unfolding all_up_to
  all_failed zero i h f = absurd (omega arith)
  all_failed (suc n) i h f =
      ⊎_elim
      (λ (e : i ≡ n). rw (← e, f, and-false) refl)
      (λ (l : i < n). rw (all_failed n i l f) refl)
      (eq-or-lt_of_le (le_of_suc-le-suc h))

  -- what the whole test says of one index
  pub all_at : (n i : ℕ) → all_up_to n P ≡ true → i < n → P i ≡ true
  all_at n i t h = by_bool (P i) (λ e. e) (λ e. absurd (true≢false (sym t ∙ all_failed n i h e)))

-- ---- a search: no index below i passes

module _ (P : ℕ → Bool) where
  pub record Missed (i : ℕ) : Type 0 where
    pub none : (k : ℕ) → k < i → P k ≡ false

  pub missed_none : Missed 0
  missed_none = record { none = λ k h. absurd (omega arith) }

  pub missed_more : (i : ℕ) → Missed i → P i ≡ false → Missed (i + 1)
  missed_more i p h = record { none = below_more (λ (k : ℕ). P k ≡ false) i p.none h }

  pub any_missed : (n : ℕ) → Missed n → any_up_to n P ≡ false
  unfolding any_up_to
  any_missed zero p = refl
  any_missed (suc n) p =
      let here : P n ≡ false = p.none n (omega arith) in
      let before : any_up_to n P ≡ false = any_missed n (record { none = λ k h. p.none k (omega arith) }) in
      rw (before, here) refl

  pub any_found : (n i : ℕ) → i < n → P i ≡ true → any_up_to n P ≡ true
  unfolding any_up_to
  any_found zero i h f = absurd (omega arith)
  any_found (suc n) i h f =
      ⊎_elim
      (λ (e : i ≡ n). rw (← e, f, or-true) refl)
      (λ (l : i < n). rw (any_found n i l f) refl)
      (eq-or-lt_of_le (le_of_suc-le-suc h))

  -- what the whole search says of one index
  pub any_at : (n i : ℕ) → any_up_to n P ≡ false → i < n → P i ≡ false
  any_at n i f h = by_bool (P i) (λ t. absurd (true≢false (sym (any_found n i h t) ∙ f))) (λ e. e)

-- tests that agree at every index
pub all_up_to_same : (n : ℕ) (P Q : ℕ → Bool) → ((i : ℕ) → i < n → P i ≡ Q i) → all_up_to n P ≡ all_up_to n Q
unfolding all_up_to
all_up_to_same zero P Q e = refl
all_up_to_same (suc n) P Q e = rw (all_up_to_same n P Q (λ i h. e i (omega arith)), e n (omega arith)) refl

-- ---- a run that stops at the first index that fails

pub count_stops : (n r : ℕ) (P : ℕ → Bool) → r ≤ n → Passed P r → P r ≡ false → count_while n P ≡ r
unfolding count_while
count_stops zero r P h p f = omega arith
count_stops (suc n) zero P h p f = rw f refl
count_stops (suc n) (suc r) P h p f =
    rw (p.all 0 (omega arith))
    (ap suc (count_stops n r (λ (i : ℕ). P (suc i)) (omega arith) (record { all = λ k l. p.all (suc k) (omega arith) }) f))

-- what was counted: at most n, each passes, and what follows does not
pub count_le : (n : ℕ) (P : ℕ → Bool) → count_while n P ≤ n
unfolding count_while
count_le zero P = omega arith
count_le (suc n) P = by_bool (P 0) (λ t. rw t (omega (arith, count_le n (λ (i : ℕ). P (suc i))))) (λ f. rw f (omega arith))

pub count_at_lem : (n i : ℕ) (P : ℕ → Bool) → i < count_while n P → P i ≡ true
unfolding count_while
count_at_lem zero i P h = absurd (omega arith)
count_at_lem (suc n) zero P h = by_bool (P 0) (λ t. t) (λ f. let g : 0 < 0 = rw f at h in absurd (omega arith))
count_at_lem (suc n) (suc i) P h =
    by_bool (P 0)
    (λ t. let g : suc i < suc (count_while n (λ (k : ℕ). P (suc k))) = rw t at h in count_at_lem n i (λ (k : ℕ). P (suc k)) (omega arith))
    (λ f. let g : suc i < 0 = rw f at h in absurd (omega arith))

pub count_next : (n : ℕ) (P : ℕ → Bool) → count_while n P < n → P (count_while n P) ≡ false
unfolding count_while
count_next zero P h = absurd (omega arith)
count_next (suc n) P h =
    by_bool (P 0)
    (λ t. let g : suc (count_while n (λ (i : ℕ). P (suc i))) < suc n = rw t at h in rw t (count_next n (λ (i : ℕ). P (suc i)) (omega arith)))
    (λ f. rw (f, f) refl)

-- ---- a search from the end: the indices from r on do not count

pub last_below : (P : ℕ → Bool) (n r : ℕ) → r ≤ n → ((k : ℕ) → r ≤ k → k < n → P k ≡ false) → last_up_to n P ≡ last_up_to r P
unfolding last_up_to
last_below P zero r h f = let e : r ≡ 0 = omega arith in rw e refl
last_below P (suc n) r h f =
    ⊎_elim
    (λ (e : r ≡ suc n). rw e refl)
    (λ (l : r < suc n). rw (f n (omega arith) (omega arith)) (last_below P n r (omega arith) (λ k a b. f k a (omega arith))))
    (eq-or-lt_of_le h)

pub last_none : (P : ℕ → Bool) (n : ℕ) → ((k : ℕ) → k < n → P k ≡ false) → last_up_to n P ≡ none
unfolding last_up_to
last_none P n f = last_below P n 0 (omega arith) (λ k a b. f k b)

pub last_found : (P : ℕ → Bool) (n i : ℕ) → i < n → P i ≡ true → ((k : ℕ) → i < k → k < n → P k ≡ false) → last_up_to n P ≡ some i
unfolding last_up_to
last_found P n i h t f = last_below P n (suc i) (omega arith) (λ k a b. f k (omega arith) b) ∙ rw t refl

-- ---- sums and lists

module _ (f : ℕ → ℕ) where
  pub sum_more : (i : ℕ) → sum_to (i + 1) f ≡ sum_to i f + f i
  unfolding sum_to
  sum_more i = rw add-one refl

  pub sum_mono : (n i : ℕ) → i < n → sum_to i f + f i ≤ sum_to n f
  unfolding sum_to
  sum_mono zero i h = omega arith
  sum_mono (suc n) i h =
      ⊎_elim
      (λ (e : i ≡ n). omega (arith, ap (λ (k : ℕ). sum_to k f) e, ap f e))
      (λ (l : i < n). omega (arith, sum_mono n i l))
      (eq-or-lt_of_le (le_of_suc-le-suc h))

  pub list_more : (i : ℕ) → list_to (i + 1) f ≡ list_to i f ++ (f i ∷ [])
  unfolding list_to
  list_more i = rw add-one refl

  pub length_list_to : (n : ℕ) → length (list_to n f) ≡ n
  unfolding list_to
  length_list_to zero = refl
  length_list_to (suc n) = rw (length-append, length_list_to n) (omega arith)

  pub get_d_list_to : (n i : ℕ) → i < n → get_or (list_to n f) i 0 ≡ f i
  unfolding list_to
  get_d_list_to zero i h = absurd (omega arith)
  get_d_list_to (suc n) i h =
      ⊎_elim
      (λ (e : i ≡ n). get_or_at (list_to n f) (f n) [] 0 i (length_list_to n ∙ sym e) ∙ ap f (sym e))
      (λ (l : i < n). get_or-append (list_to n f) (f n ∷ []) 0 i (rw length_list_to l) ∙ get_d_list_to n i l)
      (eq-or-lt_of_le (le_of_suc-le-suc h))

pub concat_more : (f : ℕ → List ℕ) (i : ℕ) → concat_up_to (i + 1) f ≡ concat_up_to i f ++ f i
unfolding concat_up_to
concat_more f i = rw add-one refl

-- ---- a loop that writes items of varying length, some perhaps empty, each right behind the last. After i items of at most z
-- elements each, `next` is the next place.

pub record Joined (z : ℕ) (d : List ℕ) (at : ℕ) (f : ℕ → List ℕ) (i next : ℕ) (l : List ℕ) : Type 0 where
  pub wrote : Wrote d at (concat_up_to i f) l
  pub place : next ≡ at + length (concat_up_to i f)
  pub short : length (concat_up_to i f) ≤ z * i

pub joined_none : (z : ℕ) (d : List ℕ) (at : ℕ) (f : ℕ → List ℕ) → Joined z d at f 0 at d
unfolding concat_up_to
joined_none z d at f = record { wrote = wrote_none d at; place = omega arith; short = omega arith }

-- the next item, as a writer that answers the next place tells of it
pub joined_more : {z : ℕ} {d : List ℕ} {at : ℕ} {f : ℕ → List ℕ} {i next : ℕ} {l : List ℕ} → Joined z d at f i next l
    → (next' : ℕ) (l' : List ℕ) → length (f i) ≤ z → at + z * i + z ≤ length d
    → next' ≡ next + length (f i) → l' ≡ overwrite l next (f i) → Joined z d at f (i + 1) next' l'
joined_more {z} {d} {at} {f} {i} {next} {l} j next' l' h r e q =
    let n = length-append (concat_up_to i f) (f i) in
    let m : z * (i + 1) ≡ z * i + z = simp (mul-add, mul-one) in
    record {
      wrote = rw (concat_more f i) (wrote_next j.wrote next (f i) q j.place (omega (arith, j.place, j.short)));
      place = rw (concat_more f i) (omega (arith, j.place, n));
      short = rw (concat_more f i) (omega (arith, j.short, n, m));
    }

-- ---- what they are in the model's terms

module _ {A : Type 0} where
  pub all_tabulate : (p : A → Bool) (n : ℕ) (f : ℕ → A) → all_up_to n (λ (i : ℕ). p (f i)) ≡ all p (tabulate n f)
  unfolding all_up_to
  all_tabulate p zero f = refl
  all_tabulate p (suc n) f =
      let whole : all p (tabulate (suc n) f) ≡ (all p (tabulate n f) && (p (f n) && true))
      = ap (all p) (tabulate_last n f) ∙ all_append_is p (tabulate n f) (f n ∷ []) in
      rw (all_tabulate p n f) (sym (whole ∙ rw and-true refl))

  pub any_tabulate : (p : A → Bool) (n : ℕ) (f : ℕ → A) → any_up_to n (λ (i : ℕ). p (f i)) ≡ any p (tabulate n f)
  unfolding any_up_to
  any_tabulate p zero f = refl
  any_tabulate p (suc n) f =
      let whole : any p (tabulate (suc n) f) ≡ (any p (tabulate n f) || (p (f n) || false))
      = ap (any p) (tabulate_last n f) ∙ any_append_is p (tabulate n f) (f n ∷ []) in
      rw (any_tabulate p n f) (sym (whole ∙ rw or-false refl))

pub sum_tabulate : (n : ℕ) (f : ℕ → ℕ) → sum_to n f ≡ sum (tabulate n f)
unfolding sum_to
sum_tabulate zero f = refl
sum_tabulate (suc n) f =
    let whole : sum (tabulate (suc n) f) ≡ sum (tabulate n f) + (f n + 0) = ap sum (tabulate_last n f) ∙ sum_append (tabulate n f) (f n ∷ []) in
    omega (arith, sum_tabulate n f, whole)

pub list_tabulate : (n : ℕ) (f : ℕ → ℕ) → list_to n f ≡ tabulate n f
unfolding list_to
list_tabulate zero f = refl
list_tabulate (suc n) f = rw (tabulate_last n f, list_tabulate n f) refl
