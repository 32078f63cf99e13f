-- Laws of model's interner that every call keeps: section 2's sum of the counts, one call counted, and strings that only grow.
use Rattle.std.specs.Prelude.{◌≡◌, refl, Bool, true, false, cond, ◌&&◌, ◌⊎◌, ℕ, suc, ◌+◌, ◌%◌, eqb, leb, ltb, length, take}
use Rattle.std.proofs.Common.{sym, ap, ◌∙◌, subst, inl, inr, ⊎_elim, arith, le-leb, leb-true, length-append, take-take}
use mathlib.Core.List.{List, [], ◌∷◌, ◌++◌, flatten}
use Rattle.std.proofs.lemmas.Bool.{eqb-false}
use Rattle.std.proofs.Math.Seq.{get_or-append_seam}
use Rattle.model.specs.Limits.{intern_length_limit, max_new_strings}
use Rattle.model.specs.Intern.{InternStats, StrInterner, Interned, Probe, fresh_interner, fx_hash, plus_stats, holds, probe, grows, table_for, cache_hit, bypass, table_hit, table_alloc, table_call, intern, intern_all}
use Rattle.facts.specs.Truth.{both}
use Rattle.facts.specs.Lists.{same_refl, flatten_snoc}
use Rattle.span.specs.declared.StrId.{StrId}
use Rattle.interner.specs.declared.StrInterner.{StrInterner as Interner}
use Rattle.model.specs.Lists.{same}
use Rattle.table.specs.Found.{found_there}
use Rattle.interner.specs.State.{state_of, Good, has_room}
use Rattle.intern.specs.Told.{Answered}

by_cond : (P : Interned → Type 0) (b : Bool) (x y : Interned) → P x → P y → P (cond b x y)
by_cond P true x y hx hy = hx
by_cond P false x y hx hy = hy

-- what holds of the four ways of a call holds of the call
pub each_way : (P : Interned → Type 0) (t : StrInterner) (s : List ℕ) → P (cache_hit t) → P (bypass t s)
    → ((table : List ℕ) (resized : ℕ) (p : Probe) → P (table_alloc t table resized p s)) → ((table : List ℕ) (resized : ℕ) (p : Probe) → P (table_hit t table resized p)) → P (intern t s)
unfolding intern table_call
each_way P t s cached long new old =
    let table = table_for t in
    let p = probe (length table) t.strings table s (fx_hash s % length table) 0 in
    by_cond P (holds t.strings t.last s) _ _ cached
    (by_cond P (ltb intern_length_limit (length s)) _ _ long
    (by_cond P (eqb p.slot 0) _ _ (new table (cond (grows t) 1 0) p) (old table (cond (grows t) 1 0) p)))

-- ---- Section 2. calls = cache hits + table hits + allocs.
pub record Balanced (c : InternStats) : Type 0 where
  pub sum : c.calls ≡ c.cache_hits + c.table_hits + c.allocs

pub balanced_call : (t : StrInterner) (s : List ℕ) → Balanced t.stats → Balanced (intern t s).state.stats
unfolding cache_hit bypass table_alloc table_hit plus_stats
balanced_call t s h =
    each_way (λ (a : Interned). Balanced a.state.stats) t s
    (record { sum = omega (arith, h.sum) })
    (record { sum = omega (arith, h.sum) })
    (λ table resized p. record { sum = omega (arith, h.sum) })
    (λ table resized p. record { sum = omega (arith, h.sum) })

balanced_all : (ss : List (List ℕ)) (t : StrInterner) → Balanced t.stats → Balanced (intern_all t ss).stats
unfolding intern_all
balanced_all [] t h = h
balanced_all (s ∷ ss) t h = balanced_all ss (intern t s).state (balanced_call t s h)

-- every list of calls on a fresh interner
pub calls_sum : (ss : List (List ℕ)) → (intern_all fresh_interner ss).stats.calls ≡ (intern_all fresh_interner ss).stats.cache_hits + (intern_all fresh_interner ss).stats.table_hits + (intern_all fresh_interner ss).stats.allocs
calls_sum ss = (balanced_all ss fresh_interner (record { sum = refl })).sum

-- ---- a call counts itself
pub calls_one : (t : StrInterner) (s : List ℕ) → (intern t s).state.stats.calls ≡ t.stats.calls + 1
unfolding cache_hit bypass table_alloc table_hit plus_stats
calls_one t s = each_way (λ (a : Interned). a.state.stats.calls ≡ t.stats.calls + 1) t s refl refl (λ table resized p. refl) (λ table resized p. refl)

-- so a caller knows how many calls it has left
pub answered_calls : (work strs : List ℕ) (st : Interner) (s : List ℕ) (work' strs' : List ℕ) (u : Interner) (id : StrId) → Answered work strs st work' strs' u id (intern (state_of work strs st) s) → u.stats.calls ≡ st.stats.calls + 1
answered_calls work strs st s work' strs' u id a = ap (λ (t : StrInterner). t.stats.calls) a.state ∙ calls_one (state_of work strs st) s

-- ---- the bytes before the layer's strings stay as they are
pub answered_base : (work strs : List ℕ) (st : Interner) (work' strs' : List ℕ) (u : Interner) (id : StrId) (a : Interned) → Good work strs st → Answered work strs st work' strs' u id a → take u.base strs' ≡ take st.base strs
answered_base work strs st work' strs' u id a g h =
    ap (λ (n : ℕ). take n strs') h.base
    ∙ sym (take-take st.base st.used strs' g.begins)
    ∙ ap (λ (l : List ℕ). take st.base l) h.kept
    ∙ take-take st.base st.used strs g.begins

-- ---- strings only grow
pub strings_grow : (t : StrInterner) (s : List ℕ) → ((intern t s).state.strings ≡ t.strings) ⊎ ((intern t s).state.strings ≡ t.strings ++ (s ∷ []))
unfolding cache_hit bypass table_alloc table_hit
strings_grow t s = each_way (λ (a : Interned). (a.state.strings ≡ t.strings) ⊎ (a.state.strings ≡ t.strings ++ (s ∷ []))) t s (inl refl) (inr refl) (λ table resized p. inr refl) (λ table resized p. inl refl)

-- ---- behind a call the last answer's string is the one that was asked for

new_holds : (ss : List (List ℕ)) (s : List ℕ) → holds (ss ++ (s ∷ [])) (suc (length ss)) s ≡ true
unfolding holds
new_holds ss s = ap (λ (x : List ℕ). same x s) (get_or-append_seam ss s [] []) ∙ same_refl s

pub last_holds : (t : StrInterner) (s : List ℕ) → holds (intern t s).state.strings (intern t s).state.last s ≡ true
unfolding intern table_call cache_hit bypass table_alloc table_hit
last_holds t s = pick (holds t.strings t.last s) refl (ltb intern_length_limit (length s)) (eqb p.slot 0) refl
  where
    table : List ℕ
    table = table_for t

    p : Probe
    p = probe (length table) t.strings table s (fx_hash s % length table) 0

    resized : ℕ
    resized = cond (grows t) 1 0

    called : Bool → Bool → Bool → Interned
    called x y z = cond x (cache_hit t) (cond y (bypass t s) (cond z (table_alloc t table resized p s) (table_hit t table resized p)))

    pick : (x : Bool) → holds t.strings t.last s ≡ x → (y z : Bool) → eqb p.slot 0 ≡ z → holds (called x y z).state.strings (called x y z).state.last s ≡ true
    pick true e y z f = e
    pick false e true z f = new_holds t.strings s
    pick false e false true f = new_holds t.strings s
    pick false e false false f = (found_there (length table) t.strings table s (fx_hash s % length table) 0 (eqb-false p.slot 0 f)).holds_s

less_room : (size base : ℕ) (ss : List (List ℕ)) (s : List ℕ) → (leb (length (ss ++ (s ∷ []))) max_new_strings && leb (base + length (flatten (ss ++ (s ∷ [])))) size) ≡ true → (leb (length ss) max_new_strings && leb (base + length (flatten ss)) size) ≡ true
less_room size base ss s e =
    let p = both (leb (length (ss ++ (s ∷ []))) max_new_strings) (leb (base + length (flatten (ss ++ (s ∷ [])))) size) e in
    let few = leb-true (length (ss ++ (s ∷ []))) max_new_strings p.0 in
    let fits = leb-true (base + length (flatten (ss ++ (s ∷ [])))) size p.1 in
    let more = length-append ss (s ∷ []) in
    let longer = ap length (flatten_snoc ss s) ∙ length-append (flatten ss) s in
    rw (le-leb (length ss) max_new_strings (omega (arith, few, more)), le-leb (base + length (flatten ss)) size (omega (arith, fits, longer))) refl

-- a state that has room had it before the call, and before all calls: so a refused call is a refusal of the whole
pub room_before : (size base : ℕ) (t : StrInterner) (s : List ℕ) → has_room size base (intern t s).state ≡ true → has_room size base t ≡ true
unfolding has_room
room_before size base t s e =
    ⊎_elim
    (λ q. subst (λ (ss : List (List ℕ)). (leb (length ss) max_new_strings && leb (base + length (flatten ss)) size) ≡ true) q e)
    (λ q. less_room size base t.strings s (subst (λ (ss : List (List ℕ)). (leb (length ss) max_new_strings && leb (base + length (flatten ss)) size) ≡ true) q e))
    (strings_grow t s)

pub room_before_all : (size base : ℕ) (ss : List (List ℕ)) (t : StrInterner) → has_room size base (intern_all t ss) ≡ true → has_room size base t ≡ true
unfolding intern_all
room_before_all size base [] t e = e
room_before_all size base (s ∷ ss) t e = room_before size base t s (room_before_all size base ss (intern t s).state e)
