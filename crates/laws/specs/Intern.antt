-- An interned id shows its string, and every later state of the layer still shows it.
use Rattle.std.specs.Prelude.{◌≡◌, refl, ◌⊎◌, ℕ, zero, suc, ◌+◌, ◌-◌, ◌*◌, ◌%◌, ◌≤◌, ◌<◌, Bool, true, false, cond, List, [], ◌∷◌, ◌++◌, length, get_or, set, replicate, eqb, leb, ltb}
use Rattle.std.proofs.Common.{sym, ap, ◌∙◌, inl, inr, zero-le, arith, append-nil, length-append, eqb-true, leb-true, le-leb}
use Rattle.std.proofs.lemmas.Bool.{false≢true, eqb-false}
use Rattle.std.proofs.Math.Seq.{get_or-append_seam}
use Rattle.model.specs.Lists.{all, is_empty}
use Rattle.model.specs.Limits.{intern_length_limit, initial_capacity}
use Rattle.model.specs.Intern.{fx_hash, StrInterner, Interned, Probe, fresh_interner, holds, probe, empty_slot, move_slots, grows, table_for, cache_hit, bypass, table_hit, table_alloc, table_call, intern}
use Rattle.facts.specs.Truth.{both, join}
use Rattle.facts.specs.Lists.{same_eq}
use Rattle.facts.specs.Keep.{all_map, all_get, all_set}

-- every number is at most m
abbrev pub Below : ℕ → List ℕ → Type 0
Below m l = all (λ x. leb x m) l ≡ true

pub below_more : (m n : ℕ) (l : List ℕ) → m ≤ n → Below m l → Below n l
below_more m n l h b = all_map (λ x. leb x m) (λ x. leb x n) (λ x e. let k = leb-true x m e in le-leb x n (omega arith)) l b

pub below_zeros : (m n : ℕ) → Below m (replicate n 0)
below_zeros m zero = refl
below_zeros m (suc n) = join (leb 0 m) (all (λ x. leb x m) (replicate n 0)) (le-leb 0 m zero-le) (below_zeros m n)

-- a slot that holds s names a string of the layer that is s
pub record Names (strings : List (List ℕ)) (slot : ℕ) (s : List ℕ) : Type 0 where
  pub some : 1 ≤ slot
  pub inside : slot ≤ length strings
  pub shows : get_or strings (slot - 1) [] ≡ s

holds_names : (strings : List (List ℕ)) (slot : ℕ) (s : List ℕ) → slot ≤ length strings → holds strings slot s ≡ true → Names strings slot s
unfolding holds
holds_names strings zero s h e = absurd (false≢true e)
holds_names strings (suc i) s h e =
    let one : suc i - 1 ≡ i = omega arith in
    record { some = omega arith; inside = h; shows = ap (λ (k : ℕ). get_or strings k []) one ∙ same_eq (get_or strings i []) s e }

-- ---- the table

moved_below : (m : ℕ) (strings : List (List ℕ)) (old new : List ℕ) → Below m old → Below m new → Below m (move_slots strings old new)
unfolding move_slots
moved_below m strings [] new b c = c
moved_below m strings (zero ∷ old) new b c = moved_below m strings old new (both (leb 0 m) (all (λ x. leb x m) old) b).1 c
moved_below m strings (suc i ∷ old) new b c =
    let at = empty_slot (length new) new (fx_hash (get_or strings i []) % length new) in
    let s = both (leb (suc i) m) (all (λ x. leb x m) old) b in
    moved_below m strings old (set new at (suc i)) s.1 (all_set (λ x. leb x m) new at (suc i) c s.0)

-- every slot and the last answer name a string of the layer
pub record Sound (t : StrInterner) : Type 0 where
  pub slots : Below (length t.strings) t.table
  pub answer : t.last ≤ length t.strings

table_below : (t : StrInterner) → Sound t → Below (length t.strings) (table_for t)
unfolding table_for
table_below t s = pick (is_empty t.table) (grows t)
  where
    grown : List ℕ
    grown = move_slots t.strings t.table (replicate (length t.table * 2) 0)

    pick : (x y : Bool) → Below (length t.strings) (cond x (replicate initial_capacity 0) (cond y grown t.table))
    pick true y = below_zeros (length t.strings) initial_capacity
    pick false true = moved_below (length t.strings) t.strings t.table (replicate (length t.table * 2) 0) s.slots (below_zeros (length t.strings) (length t.table * 2))
    pick false false = s.slots

-- a probe ends at an empty slot or at one that holds the string
abbrev Ends : List (List ℕ) → List ℕ → ℕ → Type 0
Ends strings s slot = (slot ≡ 0) ⊎ Names strings slot s

probe_ends : (n : ℕ) (strings : List (List ℕ)) (table : List ℕ) (s : List ℕ) (at k : ℕ) → Below (length strings) table → Ends strings s (probe n strings table s at k).slot
unfolding probe
probe_ends zero strings table s at k b = inl refl
probe_ends (suc n) strings table s at k b =
    pick (probe_ends n strings table s ((at + 1) % length table) (k + 1) b) (eqb (get_or table at 0) 0) refl (holds strings (get_or table at 0) s) refl
  where
    stop : Probe
    stop = record { at = at; slot = get_or table at 0; steps = k + 1 }

    more : Probe
    more = probe n strings table s ((at + 1) % length table) (k + 1)

    pick : Ends strings s more.slot → (x : Bool) → eqb (get_or table at 0) 0 ≡ x → (y : Bool) → holds strings (get_or table at 0) s ≡ y → Ends strings s (cond x stop (cond y stop more)).slot
    pick m true e y f = inl (eqb-true (get_or table at 0) 0 e)
    pick m false e true f = inr (holds_names strings (get_or table at 0) s (leb-true (get_or table at 0) (length strings) (all_get (λ x. leb x (length strings)) table at 0 b (le-leb 0 (length strings) zero-le))) f)
    pick m false e false f = m

-- ---- a call

-- what a call gives: a sound state whose strings go on from the old ones, and an id in it that shows the string
pub record Answers (t : StrInterner) (s : List ℕ) (r : Interned) : Type 0 where
  pub sound : Sound r.state
  pub more : List (List ℕ)
  pub grown : r.state.strings ≡ t.strings ++ more
  pub inside : r.id < length r.state.strings
  pub shows : get_or r.state.strings r.id [] ≡ s
  -- it is the only string that may be new
  pub only : (p : List ℕ → Bool) → p s ≡ true → all p more ≡ true

length_snoc : (ss : List (List ℕ)) (s : List ℕ) → length (ss ++ (s ∷ [])) ≡ suc (length ss)
length_snoc ss s = let e = length-append ss (s ∷ []) in omega arith

hit_answers : (t : StrInterner) (s : List ℕ) → Sound t → Names t.strings t.last s → Answers t s (cache_hit t)
unfolding cache_hit
hit_answers t s ok n = record {
  sound = record { slots = ok.slots; answer = ok.answer };
  more = [];
  grown = sym (append-nil t.strings);
  inside = omega (arith, n.some, n.inside);
  shows = n.shows;
  only = λ p h. refl;
}

bypass_answers : (t : StrInterner) (s : List ℕ) → Sound t → Answers t s (bypass t s)
unfolding bypass
bypass_answers t s ok =
    let e = length_snoc t.strings s in
    record {
      sound = record { slots = below_more (length t.strings) (length (t.strings ++ (s ∷ []))) t.table (omega arith) ok.slots; answer = omega arith };
      more = s ∷ [];
      grown = refl;
      inside = omega arith;
      shows = get_or-append_seam t.strings s [] [];
      only = λ p h. join (p s) true h refl;
    }

table_answers : (t : StrInterner) (table : List ℕ) (s : List ℕ) → Sound t → Below (length t.strings) table → Answers t s (table_call t table s)
unfolding table_call table_hit table_alloc
table_answers t table s ok b = pick (probe_ends (length table) t.strings table s (fx_hash s % length table) 0 b) (eqb p.slot 0) refl
  where
    p : Probe
    p = probe (length table) t.strings table s (fx_hash s % length table) 0

    grown : ℕ
    grown = cond (grows t) 1 0

    new : Answers t s (table_alloc t table grown p s)
    new =
        let e = length_snoc t.strings s in
        record {
          sound = record {
            slots = all_set (λ x. leb x (length (t.strings ++ (s ∷ [])))) table p.at (suc (length t.strings))
                (below_more (length t.strings) (length (t.strings ++ (s ∷ []))) table (omega arith) b) (le-leb (suc (length t.strings)) (length (t.strings ++ (s ∷ []))) (omega arith));
            answer = omega arith;
          };
          more = s ∷ [];
          grown = refl;
          inside = omega arith;
          shows = get_or-append_seam t.strings s [] [];
          only = λ p h. join (p s) true h refl;
        }

    old : Names t.strings p.slot s → Answers t s (table_hit t table grown p)
    old n = record {
      sound = record { slots = b; answer = n.inside };
      more = [];
      grown = sym (append-nil t.strings);
      inside = omega (arith, n.some, n.inside);
      shows = n.shows;
      only = λ p h. refl;
    }

    pick : Ends t.strings s p.slot → (x : Bool) → eqb p.slot 0 ≡ x → Answers t s (cond x (table_alloc t table grown p s) (table_hit t table grown p))
    pick e true q = new
    pick (inl z) false q = absurd (eqb-false p.slot 0 q z)
    pick (inr n) false q = old n

pub intern_answers : (t : StrInterner) (s : List ℕ) → Sound t → Answers t s (intern t s)
unfolding intern
intern_answers t s ok = pick (holds t.strings t.last s) refl (ltb intern_length_limit (length s))
  where
    pick : (x : Bool) → holds t.strings t.last s ≡ x → (y : Bool) → Answers t s (cond x (cache_hit t) (cond y (bypass t s) (table_call t (table_for t) s)))
    pick true e y = hit_answers t s ok (holds_names t.strings t.last s ok.answer e)
    pick false e true = bypass_answers t s ok
    pick false e false = table_answers t (table_for t) s ok (table_below t ok)

pub fresh_sound : Sound fresh_interner
fresh_sound = record { slots = refl; answer = zero-le }
