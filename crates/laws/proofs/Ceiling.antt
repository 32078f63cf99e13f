-- Wish 7, proved: probes are at most calls × m. The table has at most m entries, and a probe inspects the entries and at most one empty
-- slot, which it then fills.
use Rattle.std.specs.Prelude.{◌≡◌, refl, ℕ, zero, suc, ◌+◌, ◌*◌, ◌%◌, ◌≤◌, ◌<◌, Bool, true, false, cond, ◌||◌, List, [], ◌∷◌, ◌++◌, length, get_or, set, eqb, ltb}
use Rattle.std.proofs.Common.{sym, ap, ap₂, ◌∙◌, subst, arith, mod-lt, suc-mul, mul-zero, append_assoc, length-append, eqb-true, le-leb, ltb-false}
use Rattle.std.proofs.lemmas.Bool.{false≢true, eqb-false}
use Rattle.std.proofs.Math.Seq.{get_or-append_seam}
use Rattle.model.specs.Lists.{all, any, same}
use Rattle.model.specs.Limits.{intern_length_limit}
use Rattle.model.specs.Types.{Layer, RegionOutput}
use Rattle.model.specs.Refusal.{Checked.accepted}
use Rattle.model.specs.WellFormed.{check_reading}
use Rattle.model.specs.Intern.{StrInterner, Probe, fresh_interner, fx_hash, plus_stats, holds, probe, empty_slot, grows, table_for, cache_hit, bypass, table_hit, table_alloc, table_call, intern, intern_all}
use Rattle.model.specs.Tree.{ShownNode, shown_nodes}
use Rattle.model.specs.Graft.{layered, graft_node_refs, graft_calls}
use Rattle.model.specs.Region.{Edit}
use Rattle.model.specs.Merge.{Stored, Room, IncrementalOutput, grafted, answer, merge}
use Rattle.model.specs.Ceiling.{is_short, distinct_short, Ceiling, calls_of, reading_calls}
use Rattle.facts.specs.Truth.{both, join, or_right}
use Rattle.facts.specs.Lists.{same_refl}
use Rattle.laws.specs.Checks.{merge_accepted}
use Rattle.laws.specs.Intern.{Sound, intern_answers, fresh_sound}
use Rattle.laws.specs.Slots.{taken, taken_set, empty_inside, empty_empty, taken_round}
use Rattle.laws.specs.Probe.{inspected, miss_empty}
use Rattle.laws.specs.Entries.{known, distinct_few, entries, entries_grown}
use Rattle.laws.specs.Tables.{Table, entries_few, table_grown, entered, Kept, fresh_kept, Ready, ready}
use Rattle.laws.specs.Calls.{graft_calls_lem}

-- ---- a call

record Step (calls : List (List ℕ)) (t u : StrInterner) : Type 0 where
  kept : Kept calls u
  counted : u.stats.calls ≡ t.stats.calls + 1
  probes : u.stats.probe_steps ≤ t.stats.probe_steps + distinct_short calls

hit_step : (calls : List (List ℕ)) (t : StrInterner) → Kept calls t → Step calls t (cache_hit t).state
unfolding cache_hit plus_stats
hit_step calls t k = record { kept = record { table = k.table; number = k.number }; counted = refl; probes = omega arith }

bypass_step : (calls : List (List ℕ)) (t : StrInterner) (s : List ℕ) → Kept calls t → Step calls t (bypass t s).state
unfolding bypass plus_stats
bypass_step calls t s k = record { kept = record { table = table_grown calls t.strings (s ∷ []) t.table k.table; number = k.number }; counted = refl; probes = omega arith }

table_step : (calls : List (List ℕ)) (t : StrInterner) (table : List ℕ) (s : List ℕ) → Ready calls t table → known calls s ≡ true → Step calls t (table_call t table s).state
unfolding table_call table_hit table_alloc plus_stats
table_step calls t table s k kn = pick (eqb p.slot 0) refl
  where
    S : List (List ℕ)
    S = t.strings

    S' : List (List ℕ)
    S' = S ++ (s ∷ [])

    start : ℕ
    start = fx_hash s % length table

    start_lt : start < length table
    start_lt = mod-lt (fx_hash s) (let r = k.room in omega (arith, r))

    p : Probe
    p = probe (length table) S table s start 0

    resized : ℕ
    resized = cond (grows t) 1 0

    most : p.steps ≤ taken table + 1
    most = omega (arith, (inspected (length table) S table s start 0).most, taken_round table start start_lt)

    absent : p.slot ≡ 0 → any (same s) (entries S table) ≡ false
    absent z = go (any (same s) (entries S table)) refl
      where
        go : (x : Bool) → any (same s) (entries S table) ≡ x → x ≡ false
        go true e = absurd (k.is.finds s e z)
        go false e = refl

    last : get_or S' (length S) [] ≡ s
    last = get_or-append_seam S s [] []

    new : p.slot ≡ 0 → Step calls t (table_alloc t table resized p s).state
    new z =
        let at : p.at ≡ empty_slot (length table) table start = miss_empty (length table) S table s start 0 z in
        let same_at : p.at ≡ empty_slot (length table) table (fx_hash (get_or S' (length S) []) % length table) =
        at ∙ ap (λ (x : List ℕ). empty_slot (length table) table (fx_hash x % length table)) (sym last) in
        let tab : Table calls S' (set table p.at (suc (length S))) =
        subst (λ (j : ℕ). Table calls S' (set table j (suc (length S)))) (sym same_at)
        (entered calls S' table (length S) (table_grown calls S (s ∷ []) table k.is) k.room (omega (arith, length-append S (s ∷ [])))
        (ap (known calls) last ∙ kn)
        (ap₂ (λ (x : List ℕ) (l : List (List ℕ)). any (same x) l) last (entries_grown S (s ∷ []) table k.is.below) ∙ absent z)) in
        let c : taken (set table p.at (suc (length S))) ≡ suc (taken table) =
        ap (λ (j : ℕ). taken (set table j (suc (length S)))) at
        ∙ taken_set table (empty_slot (length table) table start) (suc (length S)) (empty_inside table start start_lt) (empty_empty table start k.room start_lt) (λ e. omega (arith, e)) in
        let few = entries_few calls S' (set table p.at (suc (length S))) tab in
        record {
          kept = record { table = tab; number = omega (arith, k.number, c) };
          counted = refl;
          probes = omega (arith, most, c, few);
        }

    old : (p.slot ≡ 0 → ⊥) → Step calls t (table_hit t table resized p).state
    old ne =
        let few = entries_few calls S table k.is in
        let h = (inspected (length table) S table s start 0).hit ne in
        record { kept = record { table = k.is; number = k.number }; counted = refl; probes = omega (arith, h, taken_round table start start_lt, few) }

    pick : (x : Bool) → eqb p.slot 0 ≡ x → Step calls t (cond x (table_alloc t table resized p s) (table_hit t table resized p)).state
    pick true e = new (eqb-true p.slot 0 e)
    pick false e = old (eqb-false p.slot 0 e)

-- every call of one of these strings
call_step : (calls : List (List ℕ)) (t : StrInterner) (s : List ℕ) → Kept calls t → any (same s) calls ≡ true → Step calls t (intern t s).state
unfolding intern is_short
call_step calls t s k a = pick (holds t.strings t.last s) (ltb intern_length_limit (length s)) refl
  where
    pick : (x y : Bool) → ltb intern_length_limit (length s) ≡ y → Step calls t (cond x (cache_hit t) (cond y (bypass t s) (table_call t (table_for t) s))).state
    pick true y e = hit_step calls t k
    pick false true e = bypass_step calls t s k
    pick false false e =
        table_step calls t (table_for t) s (ready calls t k)
        (join (is_short s) (any (same s) calls) (le-leb (length s) intern_length_limit (ltb-false intern_length_limit (length s) e)) a)

-- ---- all of them

all_step : (calls ss : List (List ℕ)) (t : StrInterner) → Kept calls t → all (λ s. any (same s) calls) ss ≡ true
    → ((intern_all t ss).stats.calls ≡ t.stats.calls + length ss) × ((intern_all t ss).stats.probe_steps ≤ t.stats.probe_steps + length ss * distinct_short calls)
unfolding intern_all
all_step calls [] t k a = (omega arith, omega arith)
all_step calls (s ∷ ss) t k a =
    let b = both (any (same s) calls) (all (λ r. any (same r) calls) ss) a in
    let u = call_step calls t s k b.0 in
    let r = all_step calls ss (intern t s).state u.kept b.1 in
    let m : suc (length ss) * distinct_short calls ≡ length ss * distinct_short calls + distinct_short calls = suc-mul (length ss) (distinct_short calls) in
    (omega (arith, r.0, u.counted), omega (arith, r.1, u.probes, m))

-- each string of a list is in it
among : (before ss : List (List ℕ)) → all (λ s. any (same s) (before ++ ss)) ss ≡ true
among before [] = refl
among before (s ∷ ss) =
    join (any (same s) (before ++ (s ∷ ss))) (all (λ r. any (same r) (before ++ (s ∷ ss))) ss) (here before)
    (subst (λ (l : List (List ℕ)). all (λ r. any (same r) l) ss ≡ true) (append_assoc before (s ∷ []) ss) (among (before ++ (s ∷ [])) ss))
  where
    here : (l : List (List ℕ)) → any (same s) (l ++ (s ∷ ss)) ≡ true
    here [] = rw (same_refl s) refl
    here (x ∷ l) = or_right (same s x) (any (same s) (l ++ (s ∷ ss))) (here l)

-- Wish 7. For every list of intern calls on a fresh layer, probes are at most calls × m, and 0 if m is 0.
pub ceiling : (ss : List (List ℕ)) → Ceiling ss (intern_all fresh_interner ss).stats
ceiling ss =
    let r = all_step ss ss fresh_interner (fresh_kept ss) (among [] ss) in
    let n : (intern_all fresh_interner ss).stats.calls ≡ length ss = r.0 ∙ omega arith in
    let p : (intern_all fresh_interner ss).stats.probe_steps ≤ length ss * distinct_short ss = omega (arith, r.1) in
    record {
      made = refl;
      calls = n;
      probes = subst (λ (k : ℕ). (intern_all fresh_interner ss).stats.probe_steps ≤ k * distinct_short ss) (sym n) p;
      none = λ z. let q : length ss * distinct_short ss ≡ 0 = ap (λ (k : ℕ). length ss * k) z ∙ mul-zero (length ss) in omega (arith, p, q);
    }

-- ---- how great m may be

-- a string of the layer is still there behind a call
grown_any : (s : List ℕ) (xs more : List (List ℕ)) → any (same s) xs ≡ true → any (same s) (xs ++ more) ≡ true
grown_any s [] more e = absurd (false≢true e)
grown_any s (x ∷ xs) more e = go (same s x) e (grown_any s xs more)
  where
    go : (t : Bool) → t || any (same s) xs ≡ true → (any (same s) xs ≡ true → any (same s) (xs ++ more) ≡ true) → t || any (same s) (xs ++ more) ≡ true
    go true h r = refl
    go false h r = r h

any_at : (s : List ℕ) (xs : List (List ℕ)) (i : ℕ) → i < length xs → get_or xs i [] ≡ s → any (same s) xs ≡ true
any_at s [] i h e = absurd (omega arith)
any_at s (x ∷ xs) zero h e = ap (λ (y : List ℕ). same s y || any (same s) xs) e ∙ rw (same_refl s) refl
any_at s (x ∷ xs) (suc i) h e = or_right (same s x) (any (same s) xs) (any_at s xs i (omega arith) e)

-- behind the calls the layer has each string that was there, and each of the calls
layer_has : (t : StrInterner) (ss : List (List ℕ)) → Sound t
    → ((s : List ℕ) → any (same s) t.strings ≡ true → any (same s) (intern_all t ss).strings ≡ true) × (all (λ s. any (same s) (intern_all t ss).strings) ss ≡ true)
unfolding intern_all
layer_has t [] ok = (λ s e. e, refl)
layer_has t (r ∷ ss) ok =
    let a = intern_answers t r ok in
    let u = (intern t r).state in
    let on = layer_has u ss a.sound in (
      λ s e. on.0 s (ap (any (same s)) a.grown ∙ grown_any s t.strings a.more e),
      join (any (same r) (intern_all u ss).strings) (all (λ s. any (same s) (intern_all u ss).strings) ss) (on.0 r (any_at r u.strings (intern t r).id a.inside a.shows)) on.1,
    )

-- m is at most the number of strings of the layer
pub distinct_strings : (ss : List (List ℕ)) → distinct_short ss ≤ length (intern_all fresh_interner ss).strings
distinct_strings ss = distinct_few (intern_all fresh_interner ss).strings ss (layer_has fresh_interner ss fresh_sound).1

-- ---- grafting and the merge

-- Wish 7. The list is the one that grafting makes: of nodes in a fresh layer above any others, as a merge grafts its reading's and a
-- flattening the book's.
pub graft_ceiling : (ns : List ShownNode) (ls : List Layer) → Ceiling (graft_calls ns) (graft_node_refs ns (layered ls)).1.interner.stats
unfolding layered
graft_ceiling ns ls = subst (λ (t : StrInterner). Ceiling (graft_calls ns) t.stats) (sym (graft_calls_lem ns (layered ls))) (ceiling (graft_calls ns))

-- the calls of a reading that passed
pub reading_calls_lem : (rs : Stored) (reading : RegionOutput) → check_reading rs.tape rs.bytes ≡ accepted reading → reading_calls rs ≡ graft_calls (shown_nodes reading)
unfolding reading_calls calls_of
reading_calls_lem rs reading e = ap calls_of e

-- Wish 7. The count is the one returned by the merge.
pub merge_ceiling : (s : Stored) (e : Edit) (rs : Stored) (room : Room) (m : IncrementalOutput) → merge s e rs room ≡ accepted m → Ceiling (reading_calls rs) m.stats
unfolding answer grafted
merge_ceiling s e rs room m q =
    let a = merge_accepted s e rs room m q in
    let ns = shown_nodes a.reading in
    let counts : (graft_node_refs ns (layered a.old.layers)).1.interner.stats ≡ m.stats = sym (ap (λ (x : IncrementalOutput). x.stats) a.facts.result) in
    subst (λ (l : List (List ℕ)). Ceiling l m.stats) (sym (reading_calls_lem rs a.reading a.read))
    (subst (Ceiling (graft_calls ns)) counts (graft_ceiling ns a.old.layers))
