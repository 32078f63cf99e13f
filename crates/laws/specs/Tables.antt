-- What the interner's table keeps, also when it grows: its entries are distinct short strings of the calls, each found by its probe.
use Rattle.std.specs.Prelude.{◌≡◌, refl, ◌⊎◌, ℕ, zero, suc, ◌+◌, ◌*◌, ◌%◌, ◌≤◌, ◌<◌, Bool, true, false, cond, not, ◌&&◌, ◌||◌, List, [], ◌∷◌, ◌++◌, length, get_or, set, replicate, leb}
use Rattle.std.proofs.Common.{sym, ap, ap₂, ◌∙◌, subst, inl, inr, zero-le, arith, mod-lt, length-set, length-append, leb-true, leb-false, le-leb}
use Rattle.std.proofs.lemmas.Bool.{false≢true, not-true}
use Rattle.std.proofs.lemmas.List.{length-replicate}
use Rattle.model.specs.Lists.{all, any, same, is_empty}
use Rattle.model.specs.Limits.{initial_capacity, load_factor_numerator, load_factor_denominator}
use Rattle.model.specs.Intern.{StrInterner, Probe, fresh_interner, fx_hash, holds, probe, empty_slot, move_slots, grows, table_for}
use Rattle.model.specs.Ceiling.{distinct_short}
use Rattle.facts.specs.Truth.{both, join, either, neither}
use Rattle.facts.specs.Lists.{same_eq, same_refl, same_sym}
use Rattle.facts.specs.Keep.{all_get, all_set}
use Rattle.laws.specs.Intern.{Below, below_zeros, below_more}
use Rattle.laws.specs.Slots.{taken, taken_le, taken_zeros, taken_set, gap, empty_inside, empty_empty, moved_length, moved_taken}
use Rattle.laws.specs.Probe.{probe_grown, probe_set, put_found}
use Rattle.laws.specs.Entries.{Distinct, known, distinct_known, entries, entries_taken, entries_zeros, entries_grown, any_filled, all_filled, distinct_filled}

-- ---- a table

-- its entries are distinct short strings of these calls, and each is found by its probe
pub record Table (calls strings : List (List ℕ)) (t : List ℕ) : Type 0 where
  pub below : Below (length strings) t
  pub distinct : Distinct (entries strings t)
  pub known : all (known calls) (entries strings t) ≡ true
  pub finds : (s : List ℕ) → any (same s) (entries strings t) ≡ true → (probe (length t) strings t s (fx_hash s % length t) 0).slot ≡ 0 → ⊥

-- so it has at most m
pub entries_few : (calls strings : List (List ℕ)) (t : List ℕ) → Table calls strings t → taken t ≤ distinct_short calls
entries_few calls strings t k = let e = entries_taken strings t in let r = distinct_known calls (entries strings t) k.distinct k.known in omega (arith, e, r)

table_zeros : (calls strings : List (List ℕ)) (n : ℕ) → Table calls strings (replicate n 0)
table_zeros calls strings n =
    let z = entries_zeros strings n in
    record {
      below = below_zeros (length strings) n;
      distinct = subst Distinct (sym z) tt;
      known = ap (all (known calls)) z;
      finds = λ s e. absurd (false≢true (sym (ap (any (same s)) z) ∙ e));
    }

-- strings that come behind
pub table_grown : (calls strings more : List (List ℕ)) (t : List ℕ) → Table calls strings t → Table calls (strings ++ more) t
table_grown calls strings more t k =
    let e = entries_grown strings more t k.below in
    let l = length-append strings more in
    let slot_le : (i : ℕ) → get_or t i 0 ≤ length strings = λ i. leb-true (get_or t i 0) (length strings) (all_get (λ x. leb x (length strings)) t i 0 k.below (le-leb 0 (length strings) zero-le)) in
    record {
      below = below_more (length strings) (length (strings ++ more)) t (omega arith) k.below;
      distinct = subst Distinct (sym e) k.distinct;
      known = ap (all (known calls)) e ∙ k.known;
      finds = λ s f z.
          let there = k.finds s (sym (ap (any (same s)) e) ∙ f) in
          there (sym (ap (λ (p : Probe). p.slot) (probe_grown (length t) strings more t s (λ i ne. slot_le i) (fx_hash s % length t) 0 there)) ∙ z);
    }

-- a string that is not there yet, put at the first empty slot of its way
module _ (calls strings : List (List ℕ)) (t : List ℕ) (i : ℕ) (k : Table calls strings t) (room : taken t < length t) (inside : i < length strings) where
  abbrev own : List ℕ
  own = get_or strings i []

  abbrev start : ℕ
  start = fx_hash own % length t

  abbrev slot : ℕ
  slot = empty_slot (length t) t start

  start_lt : start < length t
  start_lt = mod-lt (fx_hash own) (omega (arith, room))

  slot_lt : slot < length t
  slot_lt = empty_inside t start start_lt

  slot_empty : get_or t slot 0 ≡ 0
  slot_empty = empty_empty t start room start_lt

  holds_own : holds strings (suc i) own ≡ true
  unfolding holds
  holds_own = same_refl own

  pub entered : known calls own ≡ true → any (same own) (entries strings t) ≡ false → Table calls strings (set t slot (suc i))
  entered kn new = record {
    below = all_set (λ x. leb x (length strings)) t slot (suc i) k.below (le-leb (suc i) (length strings) (omega arith));
    distinct = distinct_filled strings i t slot slot_lt slot_empty k.distinct new;
    known = all_filled strings i (known calls) t slot k.known kn;
    finds = λ s f. rw (length-set t slot (suc i)) (go s (either (any (same s) (entries strings t)) (same s own) (sym (any_filled strings i (same s) t slot slot_lt slot_empty) ∙ f)));
  }
    where
      go : (s : List ℕ) → ((any (same s) (entries strings t) ≡ true) ⊎ (same s own ≡ true)) → (probe (length t) strings (set t slot (suc i)) s (fx_hash s % length t) 0).slot ≡ 0 → ⊥
      go s (inl e) z =
          let there = k.finds s e in
          there (sym (ap (λ (p : Probe). p.slot) (probe_set (length t) strings t s slot (suc i) slot_empty (fx_hash s % length t) 0 there)) ∙ z)
      go s (inr e) z =
          put_found strings t own (suc i) (λ n. omega (arith, n)) holds_own start 0 start_lt (gap t start room start_lt)
          (ap (λ (r : List ℕ). (probe (length t) strings (set t slot (suc i)) r (fx_hash r % length t) 0).slot) (sym (same_eq s own e)) ∙ z)

-- ---- growth

-- what is to be moved: distinct, known, and none of it in the new table
record Moving (calls strings : List (List ℕ)) (old new : List ℕ) : Type 0 where
  below : Below (length strings) old
  distinct : Distinct (entries strings old)
  known : all (known calls) (entries strings old) ≡ true
  others : all (λ s. not (any (same s) (entries strings new))) (entries strings old) ≡ true
  room : taken new + taken old ≤ length new

nor : {x y : Bool} → x ≡ false → y ≡ false → x || y ≡ false
nor {x} {y} e f = ap₂ (λ (u v : Bool). u || v) e f

others_more : (strings : List (List ℕ)) (i : ℕ) (t : List ℕ) (p : ℕ) → p < length t → get_or t p 0 ≡ 0 → (l : List (List ℕ)) → any (same (get_or strings i [])) l ≡ false
    → all (λ s. not (any (same s) (entries strings t))) l ≡ true → all (λ s. not (any (same s) (entries strings (set t p (suc i))))) l ≡ true
others_more strings i t p h e [] n a = refl
others_more strings i t p h e (s ∷ l) n a =
    let b = both (not (any (same s) (entries strings t))) (all (λ r. not (any (same r) (entries strings t))) l) a in
    let c = neither (same (get_or strings i []) s) (any (same (get_or strings i [])) l) n in
    let x : any (same s) (entries strings (set t p (suc i))) ≡ false = any_filled strings i (same s) t p h e ∙ nor (not-true (any (same s) (entries strings t)) b.0) (same_sym s (get_or strings i []) ∙ c.0) in
    join (not (any (same s) (entries strings (set t p (suc i))))) (all (λ r. not (any (same r) (entries strings (set t p (suc i))))) l)
    (ap not x)
    (others_more strings i t p h e l c.1 b.1)

moved : (calls strings : List (List ℕ)) (old new : List ℕ) → Table calls strings new → Moving calls strings old new → Table calls strings (move_slots strings old new)
unfolding move_slots entries taken
moved calls strings [] new k m = k
moved calls strings (zero ∷ old) new k m =
    moved calls strings old new k
    (record { below = (both (leb 0 (length strings)) (all (λ y. leb y (length strings)) old) m.below).1; distinct = m.distinct; known = m.known; others = m.others; room = m.room })
moved calls strings (suc i ∷ old) new k m =
    let b = both (leb (suc i) (length strings)) (all (λ y. leb y (length strings)) old) m.below in
    let x = get_or strings i [] in
    let q = both (known calls x) (all (known calls) (entries strings old)) m.known in
    let o = both (not (any (same x) (entries strings new))) (all (λ s. not (any (same s) (entries strings new))) (entries strings old)) m.others in
    let room : taken new < length new = omega (arith, m.room) in
    let inside : i < length strings = let l = leb-true (suc i) (length strings) b.0 in omega (arith, l) in
    let at = fx_hash x % length new in
    let p = empty_slot (length new) new at in
    let lt : at < length new = mod-lt (fx_hash x) (omega (arith, room)) in
    let e = empty_empty new at room lt in
    let n = length-set new p (suc i) in
    let c = taken_set new p (suc i) (empty_inside new at lt) e (λ z. omega (arith, z)) in
    moved calls strings old (set new p (suc i)) (entered calls strings new i k room inside q.0 (not-true (any (same x) (entries strings new)) o.0))
    (record {
      below = b.1;
      distinct = m.distinct.1;
      known = q.1;
      others = others_more strings i new p (empty_inside new at lt) e (entries strings old) m.distinct.0 o.1;
      room = omega (arith, m.room, c, n);
    })

-- ---- the state between calls

pub record Kept (calls : List (List ℕ)) (t : StrInterner) : Type 0 where
  pub table : Table calls t.strings t.table
  pub number : t.occupied ≡ taken t.table

pub fresh_kept : (calls : List (List ℕ)) → Kept calls fresh_interner
unfolding taken
fresh_kept calls = record { table = table_zeros calls [] 0; number = refl }

-- the table that a call probes: the same entries, and an empty slot
pub record Ready (calls : List (List ℕ)) (t : StrInterner) (table : List ℕ) : Type 0 where
  pub is : Table calls t.strings table
  pub number : t.occupied ≡ taken table
  pub room : taken table < length table

all_others : (strings : List (List ℕ)) (n : ℕ) (l : List (List ℕ)) → all (λ s. not (any (same s) (entries strings (replicate n 0)))) l ≡ true
all_others strings n [] = refl
all_others strings n (s ∷ l) =
    let z = entries_zeros strings n in
    join (not (any (same s) (entries strings (replicate n 0)))) (all (λ r. not (any (same r) (entries strings (replicate n 0)))) l)
    (ap (λ (u : List (List ℕ)). not (any (same s) u)) z) (all_others strings n l)

pub ready : (calls : List (List ℕ)) (t : StrInterner) → Kept calls t → Ready calls t (table_for t)
unfolding table_for grows taken
ready calls t k = pick (is_empty t.table) refl (leb (length t.table * load_factor_numerator) (t.occupied * load_factor_denominator)) refl
  where
    S : List (List ℕ)
    S = t.strings

    T : List ℕ
    T = t.table

    zeros : List ℕ
    zeros = replicate (length T * 2) 0

    grown : List ℕ
    grown = move_slots S T zeros

    none : (l : List ℕ) → is_empty l ≡ true → taken l ≡ 0
    none [] e = refl
    none (x ∷ l) e = absurd (false≢true e)

    some : (l : List ℕ) → is_empty l ≡ false → 0 < length l
    some [] e = absurd (false≢true (sym e))
    some (x ∷ l) e = omega arith

    room : taken zeros + taken T ≤ length zeros
    room = omega (arith, taken_zeros (length T * 2), taken_le T, length-replicate {A = ℕ} (length T * 2) 0)

    made : Table calls S grown
    made =
        moved calls S T zeros (table_zeros calls S (length T * 2))
        (record { below = k.table.below; distinct = k.table.distinct; known = k.table.known; others = all_others S (length T * 2) (entries S T); room = room })

    pick : (x : Bool) → is_empty T ≡ x → (y : Bool) → leb (length T * load_factor_numerator) (t.occupied * load_factor_denominator) ≡ y
        → Ready calls t (cond x (replicate initial_capacity 0) (cond (not x && y) grown T))
    pick true e y q =
        let z = taken_zeros initial_capacity in
        record { is = table_zeros calls S initial_capacity; number = k.number ∙ none T e ∙ sym z; room = omega (arith, z, length-replicate {A = ℕ} initial_capacity 0) }
    pick false e true q =
        let c = moved_taken S T zeros room in
        let z = taken_zeros (length T * 2) in
        record {
          is = made;
          number = omega (arith, k.number, c, z);
          room = omega (arith, c, z, moved_length S T zeros, length-replicate {A = ℕ} (length T * 2) 0, taken_le T, some T e);
        }
    pick false e false q =
        let s = leb-false (length T * load_factor_numerator) (t.occupied * load_factor_denominator) q in
        record { is = k.table; number = k.number; room = omega (arith, k.number, s, some T e) }
