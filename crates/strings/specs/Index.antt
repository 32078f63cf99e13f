-- An index of where strings begin: every k-th start in lent words, k as small as the words allow.
use Rattle.std.specs.Prelude.{◌≡◌, refl}
use Rattle.std.proofs.Math.Path.{sym, ap}
use Rattle.std.proofs.Common.{◌∙◌, add-one, zero-add, zero-mul, div-lt_iff_lt-mul, le-div_iff_mul-le, get_or-take}
use Prim.Native.Nat.{ℕ, suc, ◌+◌, ◌-◌, ◌*◌, ◌/◌, ◌≤◌, ◌<◌, min}
use native.Mathlib.Omega.{arith}
use Rattle.std.proofs.Math.Nat.{suc-mul, lt-mul-div-succ}
use mathlib.Core.List.{List, [], ◌∷◌, ◌++◌}
use Rattle.std.proofs.Math.ListN.{length, get_or, take, set}
use Rattle.model.specs.Lists.{sum, tabulate}
use Rattle.wire.specs.Overwrite.{overwrite, overwrite_nil, overwrite_push, take_overwrite, length_overwrite}
use Rattle.wire.specs.Loops.{list_to, list_more, length_list_to, get_d_list_to, list_tabulate}
use Rattle.model.specs.Store.{string_span}
use Rattle.store.specs.declared.Store.{Store}
use Rattle.strings.specs.Starts.{lengths_in, start_in, OfTape, Between, strings_count}

-- ---- definitions

-- With no words nothing is stored; the start of string 0 is 0 and is never stored.
unfoldable pub step_of : ℕ → ℕ → ℕ
step_of count words = count / (words + 1) + 1

-- the start of string (j + 1) × k, or 4294967295 where it is not below that
unfoldable pub entry_at : List ℕ → ℕ → ℕ → ℕ
entry_at lengths k j = min (sum (take (suc j * k) lengths)) 4294967295

unfoldable pub string_index : List ℕ → ℕ → List ℕ
string_index lengths k = tabulate (length lengths / k) (entry_at lengths k)

-- the step for so many words
abbrev pub step_in : List ℕ → List ℕ → ℕ
step_in lengths words = step_of (length lengths) (length words)

abbrev pub index_in : List ℕ → List ℕ → List ℕ
index_in lengths words = string_index lengths (step_in lengths words)

pub record Indexed (lengths words : List ℕ) : Type 0 where
  pub is : take (length lengths / step_in lengths words) words ≡ index_in lengths words

-- ---- steps

module _ (count words : ℕ) where
  pub step_some : 0 < step_of count words
  unfolding step_of
  step_some = omega arith

  -- the words hold the index
  pub step_few : count / step_of count words ≤ words
  unfolding step_of
  step_few =
      let k = count / (words + 1) + 1 in
      let h : count < (words + 1) * k = lt-mul-div-succ count (omega arith) in
      let m : count / k < words + 1 = (div-lt_iff_lt-mul {k = k} (omega arith)).1 h in
      omega (arith, m)

length_index : (lengths : List ℕ) (k : ℕ) → length (string_index lengths k) ≡ length lengths / k
unfolding string_index
length_index lengths k = ap length (sym (list_tabulate (length lengths / k) (entry_at lengths k))) ∙ length_list_to (entry_at lengths k) (length lengths / k)

-- ---- the loop of `index_strings`: j words written, the last start that of string `from`

pub record Indexing (lengths first : List ℕ) (k j from start : ℕ) (words : List ℕ) : Type 0 where
  pub place : from ≡ j * k
  pub summed : start ≡ sum (take from lengths)
  pub wrote : words ≡ overwrite first 0 (list_to j (entry_at lengths k))

pub indexing_none : (lengths first : List ℕ) (k : ℕ) → Indexing lengths first k 0 0 0 first
unfolding list_to
indexing_none lengths first k = record { place = sym (zero-mul k); summed = refl; wrote = overwrite_nil first 0 }

module _ {lengths first : List ℕ} {k j from start : ℕ} {words : List ℕ} (s : Indexing lengths first k j from start words) where
  -- the next start is one of the pool's
  pub indexing_inside : 0 < k → j < length lengths / k → from + k ≤ length lengths
  indexing_inside h l = let m : suc j * k ≤ length lengths = (le-div_iff_mul-le h).0 l in let e = suc-mul j k in omega (arith, m, e, s.place)

  pub indexing_more : {next after v : ℕ} → next ≡ from + k → after ≡ sum (take next lengths) → v ≡ min after 4294967295 → j < length first
      → Indexing lengths first k (j + 1) next after (set words j v)
  unfolding entry_at
  indexing_more {next} {after} {v} e f g h =
      let p : next ≡ suc j * k = let m = suc-mul j k in omega (arith, e, m, s.place) in
      let x : v ≡ entry_at lengths k j = g ∙ ap (λ (y : ℕ). min y 4294967295) (f ∙ ap (λ (y : ℕ). sum (take y lengths)) p) in
      record {
        place = p ∙ ap (λ (y : ℕ). y * k) (sym (add-one j));
        summed = f;
        wrote =
            ap (λ (y : List ℕ). set y j v) s.wrote
            ∙ overwrite_push first 0 (list_to j (entry_at lengths k)) j v (let n = length_list_to (entry_at lengths k) j in omega (arith, n)) h
            ∙ ap (λ (y : ℕ). overwrite first 0 (list_to j (entry_at lengths k) ++ (y ∷ []))) x
            ∙ ap (overwrite first 0) (sym (list_more (entry_at lengths k) j));
      }

  pub indexing_all : j ≡ length lengths / k → words ≡ overwrite first 0 (string_index lengths k)
  unfolding string_index
  indexing_all e = s.wrote ∙ ap (overwrite first 0) (ap (λ (n : ℕ). list_to n (entry_at lengths k)) e ∙ list_tabulate (length lengths / k) (entry_at lengths k))

-- what `index_strings` leaves is as long as before
pub index_length : (lengths first : List ℕ) {words : List ℕ} → words ≡ overwrite first 0 (index_in lengths first) → length words ≡ length first
index_length lengths first {words} e =
    let k = step_in lengths first in
    let n = length_index lengths k in
    let few = step_few (length lengths) (length first) in
    ap length e ∙ length_overwrite first 0 (string_index lengths k) (omega (arith, n, few))

-- What `index_strings` leaves is an index.
pub index_written : (lengths first : List ℕ) {words : List ℕ} → words ≡ overwrite first 0 (index_in lengths first) → Indexed lengths words
index_written lengths first {words} e =
    let k = step_in lengths first in
    let bs = string_index lengths k in
    let n = length_index lengths k in
    let few = step_few (length lengths) (length first) in
    let fits : 0 + length bs ≤ length first = omega (arith, n, few) in
    let same = index_length lengths first e in
    let whole : take (length lengths / k) words ≡ bs =
    ap (λ (y : List ℕ). take (length lengths / k) y) e
    ∙ ap (λ (y : ℕ). take y (overwrite first 0 bs)) (sym (zero-add (length bs) ∙ n))
    ∙ take_overwrite first 0 bs fits in
    record { is = rw same whole }

-- no words are an index too
pub indexed_none : (lengths : List ℕ) → Indexed lengths []
indexed_none lengths = index_written lengths [] (none (overwrite [] 0 (index_in lengths [])) (index_length lengths [] refl))
  where
    none : (l : List ℕ) → length l ≡ 0 → [] ≡ l
    none [] e = refl
    none (x ∷ l) e = absurd (omega (arith, e))

-- ---- the last start stored at or before string id

module _ {lengths words : List ℕ} (s : Indexed lengths words) {id : ℕ} (h : id < length lengths) {k q : ℕ} (e : k ≡ step_in lengths words) (f : q ≡ id / k) where
  some_step : 0 < k
  some_step = let m = step_some (length lengths) (length words) in omega (arith, e, m)

  pub stored_before : q * k ≤ id
  stored_before = (le-div_iff_mul-le some_step).0 (omega (arith, f))

  stored_few : q ≤ length lengths / k
  stored_few = (le-div_iff_mul-le some_step).1 (let m = stored_before in omega (arith, m, h))

  module _ (z : q ≡ 0 → ⊥) where
    pub stored_inside : q - 1 < length words
    stored_inside =
        let m = step_few (length lengths) (length words) in
        let x = ap (λ (y : ℕ). length lengths / y) e in
        let l = stored_few in
        omega (arith, m, x, l, z)

    entry : get_or words (q - 1) 0 ≡ entry_at lengths k (q - 1)
    unfolding string_index
    entry =
        let n = length lengths / k in
        let l : q - 1 < n = let m = stored_few in omega (arith, m, z) in
        let is : take n words ≡ string_index lengths k = rw e s.is in
        sym (get_or-take n words (q - 1) 0 l)
        ∙ ap (λ (y : List ℕ). get_or y (q - 1) 0) (is ∙ sym (list_tabulate n (entry_at lengths k)))
        ∙ get_d_list_to (entry_at lengths k) n (q - 1) l

    pub stored_start : {v : ℕ} → v ≡ get_or words (q - 1) 0 → (v ≡ 4294967295 → ⊥) → v ≡ sum (take (q * k) lengths)
    unfolding entry_at
    stored_start {v} g l =
        let p : suc (q - 1) ≡ q = omega (arith, z) in
        let x : v ≡ min (sum (take (q * k) lengths)) 4294967295 = g ∙ entry ∙ ap (λ (y : ℕ). min (sum (take (y * k) lengths)) 4294967295) p in
        omega (arith, x, l)

-- ---- the strings of a tape, `count` of them

module _ {t : List ℕ} {st : Store} (f : OfTape t st) {count : ℕ} (e : count ≡ st.totals.strings) where
  pub all_strings : count ≡ length (lengths_in t)
  all_strings = e ∙ strings_count f

  pub tape_step : {k : ℕ} (words : List ℕ) → k ≡ step_of count (length words) → k ≡ step_in (lengths_in t) words
  tape_step words q = q ∙ ap (λ (n : ℕ). step_of n (length words)) all_strings

  pub tape_entries : (k : ℕ) → count / k ≡ length (lengths_in t) / k
  tape_entries k = ap (λ (n : ℕ). n / k) all_strings

  -- a turn of `index_strings`
  module _ {first words : List ℕ} {k j from start : ℕ} (s : Indexing (lengths_in t) first k j from start words)
      (g : k ≡ step_of count (length first)) (h : j < count / k) where
    pub next_between : Between st from (from + k)
    next_between =
        let m = step_some count (length first) in
        let x = tape_entries k in
        let l = indexing_inside s (omega (arith, m, g)) (omega (arith, h, x)) in
        let n = strings_count f in
        record { order = omega arith; inside = omega (arith, l, n) }

    pub next_word : j < length first
    next_word = let m = step_few count (length first) in let y = ap (λ (n : ℕ). count / n) g in omega (arith, m, y, h)

  pub index_all : {first words : List ℕ} {k j from start : ℕ} → Indexing (lengths_in t) first k j from start words
      → k ≡ step_of count (length first) → j ≡ count / k → words ≡ overwrite first 0 (index_in (lengths_in t) first)
  index_all {first} {words} {k} s g h =
      indexing_all s (h ∙ tape_entries k) ∙ ap (λ (n : ℕ). overwrite first 0 (string_index (lengths_in t) n)) (tape_step first g)

  -- `string_start`
  module _ {words : List ℕ} (s : Indexed (lengths_in t) words) {id k : ℕ} (h : id < st.totals.strings) (g : k ≡ step_of count (length words)) where
    inside : id < length (lengths_in t)
    inside = let n = strings_count f in omega (arith, h, n)

    pub lookup_between : Between st (id / k * k) id
    lookup_between = record { order = stored_before s inside (tape_step words g) refl; inside = omega (arith, h) }

    module _ (z : id / k ≡ 0 → ⊥) where
      pub lookup_inside : id / k - 1 < length words
      lookup_inside = stored_inside s inside (tape_step words g) refl z

      pub lookup_start : {v : ℕ} → v ≡ get_or words (id / k - 1) 0 → (v ≡ 4294967295 → ⊥) → v ≡ start_in t (id / k * k)
      lookup_start = stored_start s inside (tape_step words g) refl z

pub span_start : (lengths : List ℕ) (id : ℕ) {r : ℕ} → r ≡ sum (take id lengths) → r ≡ (string_span lengths id).start
unfolding string_span
span_start lengths id e = e
