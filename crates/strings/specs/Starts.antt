-- Section 3: where the strings of a pool begin among its bytes, by the lengths that their records say.
use Rattle.std.specs.Prelude.{◌≡◌, refl, ℕ, suc, ◌+◌, ◌-◌, ◌*◌, ◌≤◌, ◌<◌, ◌^◌, min, length, get_or, take, drop}
use Rattle.std.proofs.Common.{sym, ap, ◌∙◌, arith, add-one, take-add}
use mathlib.Core.List.{List, [], ◌∷◌, map, flatten}
use Rattle.std.proofs.Math.ListN.{length-drop}
use Rattle.model.specs.Lists.{sum}
use Rattle.model.specs.Bytes.{word_at}
use Rattle.model.specs.Store.{NodeStore, store_of}
use Rattle.model.specs.Tape.{LayerPlaces, record_at, records_at, operands_at, string_codec, places, string_lengths, layers_at, bytes_needed}
use Rattle.facts.specs.Lists.{sum_append}
use Rattle.laws.specs.RoundTrip.{string_bytes}
use Rattle.places.specs.Runs.{capped}
use Rattle.places.specs.Found.{strings_in}
use Rattle.places.specs.Again.{Frame, length_counts}
use Rattle.store.specs.declared.Store.{Store}
use Rattle.store.specs.Pools.{layer_of, before, before_most, pool_start_or, pool_held}
use Rattle.store.specs.Stored.{store_at}
pub use Rattle.store.specs.Stored.{OfTape, of_tape}
use Rattle.store.specs.Standing.{string_start, string_place, string_pool, all_lengths, length_part, length_pools, length_at, string_inside}

-- the lengths of all strings of a tape
abbrev pub lengths_in : List ℕ → List ℕ
lengths_in t = all_lengths t (places t).layers

-- the store of a tape, whose strings begin at the head of b
abbrev pub store_in : List ℕ → List ℕ → NodeStore
store_in t b = store_of (layers_at t (places t).layers b)

-- where string i begins among the bytes of the strings
abbrev pub start_in : List ℕ → ℕ → ℕ
start_in t i = sum (take i (lengths_in t))

-- the store of a tape whose strings have room
pub record Readable (t : List ℕ) (st : Store) (room : ℕ) : Type 0 where
  pub store : OfTape t st
  pub bytes : sum (lengths_in t) ≤ room
  pub small : room < 2 ^ 63

-- strings from, .. to - 1
pub record Between (st : Store) (from to : ℕ) : Type 0 where
  pub order : from ≤ to
  pub inside : to ≤ st.totals.strings

-- ---- sums

-- a start is another and the strings between
pub sum_between : (ns : List ℕ) (i j : ℕ) → i ≤ j → sum (take j ns) ≡ sum (take i ns) + sum (take (j - i) (drop i ns))
sum_between ns i j h =
    let e : j ≡ i + (j - i) = omega arith in
    ap (λ (k : ℕ). sum (take k ns)) e ∙ ap sum (take-add i (j - i) ns) ∙ sum_append (take i ns) (take (j - i) (drop i ns))

-- how many strings there are
pub strings_count : {t : List ℕ} {st : Store} → OfTape t st → st.totals.strings ≡ length (lengths_in t)
strings_count {t} {st} f = (string_pool t st f.stored).all ∙ sym (length_pools t (places t).layers)

-- ---- from a frame that holds

-- the bytes of all strings
pub lengths_bytes : (t : List ℕ) (ls : List LayerPlaces) → sum (all_lengths t ls) ≡ string_bytes t ls
unfolding all_lengths flatten
lengths_bytes t [] = refl
lengths_bytes t (l ∷ ls) =
    sum_append (string_lengths t l) (flatten (map (string_lengths t) ls)) ∙ ap (λ (n : ℕ). sum (string_lengths t l) + n) (lengths_bytes t ls)

module _ (t d : List ℕ) (f : Frame t d) where
  -- the strings stand behind both texts
  pub string_bytes_lem : length (drop (word_at t 1 + word_at t 5) d) ≡ sum (lengths_in t)
  unfolding bytes_needed
  string_bytes_lem = let n = length-drop (word_at t 1 + word_at t 5) d in let m = lengths_bytes t (places t).layers in omega (arith, n, m, f.bytes)

  module _ (st : Store) (e : st ≡ store_at t) where
    pub some_layer : 0 < st.layers
    some_layer = let n = (string_pool t st e).count ∙ length_counts (λ (l : LayerPlaces). l.string_count) (places t).layers in omega (arith, n, f.layered)

    pub readable : st.layers ≤ 32 → length d < 2 ^ 63 → Readable t st (length d)
    readable few h =
        let m = string_bytes_lem in
        let n = length-drop (word_at t 1 + word_at t 5) d in
        record { store = of_tape t d f st e few; bytes = omega (arith, m, n); small = h }

-- ---- one string

string_word : (t : List ℕ) (p : ℕ) → record_at string_codec t p ≡ word_at t (p + 1)
unfolding record_at operands_at string_codec
string_word t p = refl

module _ {t : List ℕ} {st : Store} (f : OfTape t st) {id : ℕ} (h : id < st.totals.strings) {p : ℕ} (e : p ≡ string_place st id) where
  pub length_inside : p + 5 ≤ length t
  length_inside = let m = string_inside t st f.stored id 1 h (omega arith) in omega (arith, m, e, f.inside)

  pub length_word : {n : ℕ} → n ≡ word_at t (p + 1) → n ≡ get_or (lengths_in t) id 0
  length_word {n} q = q ∙ sym (string_word t p) ∙ ap (record_at string_codec t) e ∙ sym (length_at t st f.stored id h)

-- ---- the strings of one layer from string i on

-- where they end, or `to` if that comes first
unfoldable pub run_end : Store → ℕ → ℕ → ℕ
run_end st i to = min to (string_start st (layer_of st.strings st.layers i + 1))

-- strings i, .. next - 1 of one layer
pub record InLayer (st : Store) (i next : ℕ) : Type 0 where
  pub after : i < next
  pub inside : next ≤ st.totals.strings
  pub one : next ≤ string_start st (layer_of st.strings st.layers i + 1)

pub start_most : {t : List ℕ} {st : Store} {room : ℕ} → Readable t st room → (i : ℕ) → start_in t i ≤ room
start_most {t} f i = let m = before_most (lengths_in t) i in omega (arith, m, f.bytes)

module _ {t : List ℕ} {st : Store} {room : ℕ} (f : Readable t st room) where
  -- where the layer of string i ends in the pool
  layer_end : (i : ℕ) → string_start st (layer_of st.strings st.layers i + 1) ≡ before (strings_in (places t).layers) (suc (layer_of st.strings st.layers i))
  layer_end i =
      let k = layer_of st.strings st.layers i in
      pool_start_or (string_pool t st f.store.stored) (k + 1) ∙ ap (before (strings_in (places t).layers)) (add-one k)

  pub run_to : {i to next : ℕ} → next ≡ run_end st i to → i < to → to ≤ st.totals.strings → InLayer st i next × (next ≤ to)
  unfolding run_end
  run_to {i} {to} {next} e h m =
      let a = pool_held (string_pool t st f.store.stored) i (omega (arith, h, m)) in
      let x = layer_end i in
      (record { after = omega (arith, e, x, a.high, h); inside = omega (arith, e, m); one = omega (arith, e) }, omega (arith, e))

  module _ {i next : ℕ} (l : InLayer st i next) {p : ℕ} (e : p ≡ string_place st i) where
    -- as `strings_length` asks
    pub run_inside : p + 5 * (next - i) ≤ length t
    run_inside =
        let m = string_inside t st f.store.stored i (next - i) (omega (arith, l.after, l.inside)) (omega (arith, l.after, l.inside)) in
        omega (arith, m, e, f.store.inside)

    lengths : take (next - i) (drop i (lengths_in t)) ≡ records_at string_codec t p (next - i)
    lengths =
        let a = pool_held (string_pool t st f.store.stored) i (omega (arith, l.after, l.inside)) in
        let x = layer_end i in
        length_part t st f.store.stored i (next - i) (record { inside = a.inside; low = a.low; high = omega (arith, x, l.one, l.after) })
        ∙ ap (λ (y : ℕ). records_at string_codec t y (next - i)) (sym e)

    pub run_start : {start n count : ℕ} → start ≡ start_in t i → count ≡ next - i → n ≡ capped room (sum (records_at string_codec t p count))
        → start + n ≡ start_in t next
    run_start {start} {n} {count} s c q =
        let g = sum_between (lengths_in t) i next (omega (arith, l.after)) in
        let w = ap sum lengths in
        let v = ap (λ (x : ℕ). sum (records_at string_codec t p x)) c in
        let m = start_most f next in
        omega (arith, g, w, v, m, s, q)
