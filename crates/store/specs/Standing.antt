-- Section 4: where the records of a pool stand in the tape, by the layers' starts, and what stands there.
use Rattle.std.specs.Prelude.{◌≡◌, ◌&&◌, ◌||◌, get_or, drop, leb, ltb, eqb}
use Rattle.std.proofs.Math.Path.{refl, sym, ap}
use Rattle.std.proofs.Common.{ap₂, ◌∙◌, add-one, add-zero, zero-add, mul-add, mul-zero, add_assoc, length-append, get_or-take, get_or-drop, drop-drop}
use Prim.Native.Nat.{ℕ, zero, suc, ◌+◌, ◌-◌, ◌*◌, ◌≤◌, ◌<◌}
use native.Mathlib.Omega.{arith}
use Rattle.std.proofs.Math.Bool.{true}
use Rattle.std.proofs.lemmas.Bool.{false≢true}
use mathlib.Core.List.{List, [], ◌∷◌, ◌++◌, map, flatten}
use Rattle.std.proofs.Math.Logic.{⊎_elim}
use Rattle.std.proofs.Math.ListN.{length, take, length-drop}
use Rattle.std.proofs.Math.Seq.{take-append-le, drop-append-add}
use Rattle.std.proofs.lemmas.List.{drop-append-le}
use borrow.Author.Tests.{leb-true, eqb-true}
use Rattle.model.specs.Lists.{sum, tabulate}
use Rattle.model.specs.Types.{Content, Segment}
use Rattle.model.specs.Store.{store_of, string_counts, content_counts, segment_counts, in_one_layer, range_ok, id_ok, resolve_content_range, resolve_seg_range}
use Rattle.model.specs.Tape.{Codec, record_size, record_at, records_at, string_codec, content_codec, segment_codec}
use Rattle.model.specs.Tape.{LayerPlaces, layer_places, layers_from, places, string_lengths, pieces, layer_at, layers_at}
use Rattle.facts.specs.Truth.{both, either}
use Rattle.facts.specs.Lists.{tabulate_same}
use Rattle.laws.specs.Records.{run_length}
use Rattle.laws.specs.RoundTrip.{layer_end}
use Rattle.places.specs.Found.{strings_in, contents_in, segments_in}
use Rattle.places.specs.Again.{layers_cons, length_counts, nodes_place}
use Rattle.places.specs.Walked.{nth_runs, RunsFit, runs_fit}
use Rattle.places.specs.declared.LayerRuns.{LayerRuns}
use Rattle.store.specs.Pools.{Pool, Held, start_or, range_in, layer_of, before, before_next, before_most, pool_start_or, pool_id, pool_range, pool_held, held_one}
use Rattle.store.specs.Stored.{store_at, stored_layers, OfTape}
use Rattle.store.specs.declared.Store.{Store}

-- ---- places

-- where layer k begins in each pool
abbrev pub string_start : Store → ℕ → ℕ
string_start st k = start_or st.strings st.layers st.totals.strings k

abbrev pub content_start : Store → ℕ → ℕ
content_start st k = start_or st.contents st.layers st.totals.contents k

abbrev pub segment_start : Store → ℕ → ℕ
segment_start st k = start_or st.segments st.layers st.totals.segments k

-- Layer k begins with its 2 at 9 + k + 5 × strings before + 10 × contents before + 37 × segments before.
unfoldable pub string_place : Store → ℕ → ℕ
string_place st i = let k = layer_of st.strings st.layers i in 10 + k + 5 * i + 10 * content_start st k + 37 * segment_start st k

unfoldable pub content_place : Store → ℕ → ℕ
content_place st i = let k = layer_of st.contents st.layers i in 10 + k + 5 * string_start st (k + 1) + 10 * i + 37 * segment_start st k

unfoldable pub segment_place : Store → ℕ → ℕ
segment_place st i = let k = layer_of st.segments st.layers i in 10 + k + 5 * string_start st (k + 1) + 10 * content_start st (k + 1) + 37 * i

-- the records of layer k
unfoldable pub runs_by : Store → ℕ → LayerRuns
runs_by st k =
    let a = string_start st k in
    let b = content_start st k in
    let g = segment_start st k in
    let strings = string_start st (k + 1) in
    let contents = content_start st (k + 1) in
    let segments = segment_start st (k + 1) in
    record {
      strings = record { at = 10 + k + 5 * a + 10 * b + 37 * g; count = strings - a };
      contents = record { at = 10 + k + 5 * strings + 10 * b + 37 * g; count = contents - b };
      segments = record { at = 10 + k + 5 * strings + 10 * contents + 37 * g; count = segments - g };
      end = 10 + k + 5 * strings + 10 * contents + 37 * segments;
    }

-- ---- the pools of a store that was filled

module _ (t : List ℕ) (st : Store) (e : st ≡ store_at t) where
  pub string_pool : Pool (strings_in (places t).layers) st.strings st.layers st.totals.strings
  unfolding store_at
  string_pool = rw e (record { is = refl; count = sym (length_counts (λ (l : LayerPlaces). l.string_count) (places t).layers); all = refl })

  pub content_pool : Pool (contents_in (places t).layers) st.contents st.layers st.totals.contents
  unfolding store_at
  content_pool = rw e (record { is = refl; count = sym (length_counts (λ (l : LayerPlaces). l.content_count) (places t).layers); all = refl })

  pub segment_pool : Pool (segments_in (places t).layers) st.segments st.layers st.totals.segments
  unfolding store_at
  segment_pool = rw e (record { is = refl; count = sym (length_counts (λ (l : LayerPlaces). l.segment_count) (places t).layers); all = refl })

-- ---- the counts of a tape's layers

length_pieces : (ns b : List ℕ) → length (pieces ns b) ≡ length ns
unfolding pieces
length_pieces [] b = refl
length_pieces (n ∷ ns) b = ap suc (length_pieces ns (drop n b))

pub string_counts_lem : (t : List ℕ) (ls : List LayerPlaces) (b : List ℕ) → string_counts (layers_at t ls b) ≡ strings_in ls
unfolding string_counts layers_at layer_at string_lengths
string_counts_lem t [] b = refl
string_counts_lem t (l ∷ ls) b =
    ap₂ (λ (x : ℕ) (xs : List ℕ). x ∷ xs)
    (length_pieces (records_at string_codec t l.strings_at l.string_count) b ∙ run_length string_codec t l.strings_at l.string_count)
    (string_counts_lem t ls (drop (sum (string_lengths t l)) b))

pub content_counts_lem : (t : List ℕ) (ls : List LayerPlaces) (b : List ℕ) → content_counts (layers_at t ls b) ≡ contents_in ls
unfolding content_counts layers_at layer_at
content_counts_lem t [] b = refl
content_counts_lem t (l ∷ ls) b =
    ap₂ (λ (x : ℕ) (xs : List ℕ). x ∷ xs) (run_length content_codec t l.contents_at l.content_count) (content_counts_lem t ls (drop (sum (string_lengths t l)) b))

pub segment_counts_lem : (t : List ℕ) (ls : List LayerPlaces) (b : List ℕ) → segment_counts (layers_at t ls b) ≡ segments_in ls
unfolding segment_counts layers_at layer_at
segment_counts_lem t [] b = refl
segment_counts_lem t (l ∷ ls) b =
    ap₂ (λ (x : ℕ) (xs : List ℕ). x ∷ xs) (run_length segment_codec t l.segments_at l.segment_count) (segment_counts_lem t ls (drop (sum (string_lengths t l)) b))

-- ---- ids and ranges, as number 4 asks

module _ (t : List ℕ) (st : Store) (e : st ≡ store_at t) (b : List ℕ) where
  pub string_id_ok : (id : ℕ) → ltb id st.totals.strings ≡ id_ok (string_counts (layers_at t (places t).layers b)) id
  string_id_ok id = pool_id (string_pool t st e) id ∙ ap (λ (n : List ℕ). id_ok n id) (sym (string_counts_lem t (places t).layers b))

  pub content_range_ok : (start len : ℕ)
      → range_in st.contents st.layers st.totals.contents start len ≡ range_ok (content_counts (layers_at t (places t).layers b)) start len
  content_range_ok start len = pool_range (content_pool t st e) start len ∙ ap (λ (n : List ℕ). range_ok n start len) (sym (content_counts_lem t (places t).layers b))

  pub segment_range_ok : (start len : ℕ)
      → range_in st.segments st.layers st.totals.segments start len ≡ range_ok (segment_counts (layers_at t (places t).layers b)) start len
  segment_range_ok start len = pool_range (segment_pool t st e) start len ∙ ap (λ (n : List ℕ). range_ok n start len) (sym (segment_counts_lem t (places t).layers b))

-- ---- the k-th layer

abbrev layer : List LayerPlaces → ℕ → LayerPlaces
layer ls k = get_or ls k (layer_places [] 0)

layer_begins : (t : List ℕ) (n p k : ℕ) → k < length (layers_from n t p)
    → layer (layers_from n t p) k
    ≡ layer_places t (p + k + 5 * before (strings_in (layers_from n t p)) k + 10 * before (contents_in (layers_from n t p)) k + 37 * before (segments_in (layers_from n t p)) k)
layer_begins t n p zero h =
    let c = layers_cons t n p (omega arith) in
    let q : p ≡ p + 0 + 5 * 0 + 10 * 0 + 37 * 0 = omega arith in
    rw c.2 (ap (layer_places t) q)
layer_begins t n p (suc k) h =
    let c = layers_cons t n p (omega arith) in
    let l = ap length c.2 in
    let e = layer_end t p in
    let ls = layers_from (n - 1) t (layer_places t p).end_at in
    let more = layer_begins t (n - 1) (layer_places t p).end_at k (omega (arith, l, h)) in
    let q : (layer_places t p).end_at + k + 5 * before (strings_in ls) k + 10 * before (contents_in ls) k + 37 * before (segments_in ls) k
    ≡ p + suc k + 5 * ((layer_places t p).string_count + before (strings_in ls) k) + 10 * ((layer_places t p).content_count + before (contents_in ls) k)
    + 37 * ((layer_places t p).segment_count + before (segments_in ls) k) = omega (arith, e) in
    rw c.2 (more ∙ ap (layer_places t) q)

count_in : (f : LayerPlaces → ℕ) (ls : List LayerPlaces) (k : ℕ) → k < length ls → get_or (map f ls) k 0 ≡ f (layer ls k)
count_in f [] k h = absurd (omega arith)
count_in f (l ∷ ls) zero h = refl
count_in f (l ∷ ls) (suc k) h = count_in f ls k (omega arith)

-- where a layer's runs begin
record RunsAt (ls : List LayerPlaces) (k : ℕ) (l : LayerPlaces) : Type 0 where
  strings : l.strings_at ≡ 10 + k + 5 * before (strings_in ls) k + 10 * before (contents_in ls) k + 37 * before (segments_in ls) k
  contents : l.contents_at ≡ 10 + k + 5 * before (strings_in ls) (suc k) + 10 * before (contents_in ls) k + 37 * before (segments_in ls) k
  segments : l.segments_at ≡ 10 + k + 5 * before (strings_in ls) (suc k) + 10 * before (contents_in ls) (suc k) + 37 * before (segments_in ls) k
  end : l.end_at ≡ 10 + k + 5 * before (strings_in ls) (suc k) + 10 * before (contents_in ls) (suc k) + 37 * before (segments_in ls) (suc k)

runs_of : (t : List ℕ) (p : ℕ) → ((layer_places t p).strings_at ≡ p + 1) × ((layer_places t p).contents_at ≡ p + 1 + 5 * (layer_places t p).string_count)
    × ((layer_places t p).segments_at ≡ p + 1 + 5 * (layer_places t p).string_count + 10 * (layer_places t p).content_count)
    × ((layer_places t p).end_at ≡ p + 1 + 5 * (layer_places t p).string_count + 10 * (layer_places t p).content_count + 37 * (layer_places t p).segment_count)
unfolding layer_places string_codec content_codec segment_codec
runs_of t p = (refl, refl, refl, refl)

runs_at : (t : List ℕ) (k : ℕ) → k < length (places t).layers → RunsAt (places t).layers k (layer (places t).layers k)
unfolding places
runs_at t k h =
    let ls = layers_from (length t) t 9 in
    let p = 9 + k + 5 * before (strings_in ls) k + 10 * before (contents_in ls) k + 37 * before (segments_in ls) k in
    let e : layer ls k ≡ layer_places t p = layer_begins t (length t) 9 k h in
    let r = runs_of t p in
    let s : get_or (strings_in ls) k 0 ≡ (layer_places t p).string_count = count_in (λ (l : LayerPlaces). l.string_count) ls k h ∙ ap (λ (l : LayerPlaces). l.string_count) e in
    let c : get_or (contents_in ls) k 0 ≡ (layer_places t p).content_count = count_in (λ (l : LayerPlaces). l.content_count) ls k h ∙ ap (λ (l : LayerPlaces). l.content_count) e in
    let g : get_or (segments_in ls) k 0 ≡ (layer_places t p).segment_count = count_in (λ (l : LayerPlaces). l.segment_count) ls k h ∙ ap (λ (l : LayerPlaces). l.segment_count) e in
    let a = before_next (strings_in ls) k in
    let b = before_next (contents_in ls) k in
    let d = before_next (segments_in ls) k in
    rw e (record {
      strings = omega (arith, r.0);
      contents = omega (arith, r.1, s, a);
      segments = omega (arith, r.2, s, c, a, b);
      end = omega (arith, r.3, s, c, g, a, b, d);
    })

-- the starts of a tape's own store find the records of each layer
pub runs_by_lem : (t : List ℕ) (st : Store) → st ≡ store_at t → (k : ℕ) → k < length (places t).layers → runs_by st k ≡ nth_runs t k
unfolding runs_by nth_runs
runs_by_lem t st e k h =
    let ls = (places t).layers in
    let l = layer ls k in
    let r = runs_at t k h in
    let sc = count_in (λ (l : LayerPlaces). l.string_count) ls k h in
    let cc = count_in (λ (l : LayerPlaces). l.content_count) ls k h in
    let gc = count_in (λ (l : LayerPlaces). l.segment_count) ls k h in
    let sn = before_next (strings_in ls) k in
    let cn = before_next (contents_in ls) k in
    let gn = before_next (segments_in ls) k in
    let s : string_start st k ≡ before (strings_in ls) k = pool_start_or (string_pool t st e) k in
    let c : content_start st k ≡ before (contents_in ls) k = pool_start_or (content_pool t st e) k in
    let g : segment_start st k ≡ before (segments_in ls) k = pool_start_or (segment_pool t st e) k in
    let sm : string_start st (k + 1) ≡ before (strings_in ls) (suc k) = pool_start_or (string_pool t st e) (k + 1) ∙ ap (before (strings_in ls)) (add-one k) in
    let cm : content_start st (k + 1) ≡ before (contents_in ls) (suc k) = pool_start_or (content_pool t st e) (k + 1) ∙ ap (before (contents_in ls)) (add-one k) in
    let gm : segment_start st (k + 1) ≡ before (segments_in ls) (suc k) = pool_start_or (segment_pool t st e) (k + 1) ∙ ap (before (segments_in ls)) (add-one k) in
    let sa : 10 + k + 5 * string_start st k + 10 * content_start st k + 37 * segment_start st k ≡ l.strings_at = omega (arith, r.strings, s, c, g) in
    let ca : 10 + k + 5 * string_start st (k + 1) + 10 * content_start st k + 37 * segment_start st k ≡ l.contents_at = omega (arith, r.contents, sm, c, g) in
    let ga : 10 + k + 5 * string_start st (k + 1) + 10 * content_start st (k + 1) + 37 * segment_start st k ≡ l.segments_at = omega (arith, r.segments, sm, cm, g) in
    let ea : 10 + k + 5 * string_start st (k + 1) + 10 * content_start st (k + 1) + 37 * segment_start st (k + 1) ≡ l.end_at = omega (arith, r.end, sm, cm, gm) in
    let sd : string_start st (k + 1) - string_start st k ≡ l.string_count = omega (arith, s, sm, sn, sc) in
    let cd : content_start st (k + 1) - content_start st k ≡ l.content_count = omega (arith, c, cm, cn, cc) in
    let gd : segment_start st (k + 1) - segment_start st k ≡ l.segment_count = omega (arith, g, gm, gn, gc) in
    λ i. record {
      strings = record { at = sa i; count = sd i };
      contents = record { at = ca i; count = cd i };
      segments = record { at = ga i; count = gd i };
      end = ea i;
    }

module _ {t : List ℕ} {st : Store} (f : OfTape t st) {k : ℕ} (h : k < st.layers) where
  pub in_tape : k < length (places t).layers
  in_tape = let n = stored_layers t f.stored in omega (arith, n, h)

  pub runs_there : {l : LayerRuns} → l ≡ runs_by st k → l ≡ nth_runs t k
  runs_there e = e ∙ runs_by_lem t st f.stored k in_tape

  pub runs_inside : {l : LayerRuns} → l ≡ runs_by st k → RunsFit t l
  runs_inside e = runs_fit f.inside in_tape (runs_there e)

-- ---- a run inside one layer, out of the whole pool

-- what stands from start, len items, lies in layer k
pub record Spans (counts : List ℕ) (start len k : ℕ) : Type 0 where
  pub inside : k < length counts
  pub low : before counts k ≤ start
  pub high : start + len ≤ before counts (suc k)

part_tabulate : {A : Type 0} (n start len : ℕ) (f : ℕ → A) → start + len ≤ n → take len (drop start (tabulate n f)) ≡ tabulate len (λ (i : ℕ). f (start + i))
part_tabulate n zero zero f h = refl
part_tabulate zero zero (suc len) f h = absurd (omega arith)
part_tabulate (suc n) zero (suc len) f h =
    ap₂ (λ x xs. x ∷ xs) (ap f (sym (zero-add 0)))
    (part_tabulate n zero len (λ (i : ℕ). f (suc i)) (omega arith) ∙ tabulate_same len (λ (i : ℕ). f (suc (0 + i))) (λ (i : ℕ). f (0 + suc i)) (λ i h. ap f (let e : suc (0 + i) ≡ 0 + suc i = omega arith in e)))
part_tabulate zero (suc start) len f h = absurd (omega arith)
part_tabulate (suc n) (suc start) len f h =
    part_tabulate n start len (λ (i : ℕ). f (suc i)) (omega arith)
    ∙ tabulate_same len (λ (i : ℕ). f (suc (start + i))) (λ (i : ℕ). f (suc start + i)) (λ i h. ap f (let e : suc (start + i) ≡ suc start + i = omega arith in e))

module _ {A : Type 0} (c : Codec A) (t : List ℕ) where
  -- a part of a run of records is a run of records
  part_records : (p n start len : ℕ) → start + len ≤ n → take len (drop start (records_at c t p n)) ≡ records_at c t (p + record_size c * start) len
  unfolding records_at
  part_records p n start len h =
      part_tabulate n start len (λ (i : ℕ). record_at c t (p + record_size c * i)) h
      ∙ tabulate_same len (λ (i : ℕ). record_at c t (p + record_size c * (start + i))) (λ (i : ℕ). record_at c t (p + record_size c * start + record_size c * i))
      (λ i h. ap (record_at c t) (ap (λ (k : ℕ). p + k) (mul-add (record_size c) start i) ∙ sym (add_assoc p (record_size c * start) (record_size c * i))))

  module _ (at count : LayerPlaces → ℕ) where
    -- the pool of such runs, layer after layer
    abbrev pool_of : List LayerPlaces → List A
    pool_of ls = flatten (map (λ (l : LayerPlaces). records_at c t (at l) (count l)) ls)

    pool_part : (ls : List LayerPlaces) (k start len : ℕ) → Spans (map count ls) start len k
        → take len (drop start (pool_of ls)) ≡ records_at c t (at (layer ls k) + record_size c * (start - before (map count ls) k)) len
    unfolding flatten
    pool_part [] k start len s = absurd (let h = s.inside in omega (arith, h))
    pool_part (l ∷ ls) zero start len s =
        let run = records_at c t (at l) (count l) in
        let n = run_length c t (at l) (count l) in
        let h : start + len ≤ count l = omega (arith, s.high) in
        let m = length-drop start run in
        ap (take len) (drop-append-le start run (pool_of ls) (omega (arith, h, n)))
        ∙ take-append-le len (drop start run) (pool_of ls) (omega (arith, h, n, m))
        ∙ part_records (at l) (count l) start len h
        ∙ ap (λ (x : ℕ). records_at c t (at l + record_size c * x) len) (let e : start ≡ start - 0 = omega arith in e)
    pool_part (l ∷ ls) (suc k) start len s =
        let run = records_at c t (at l) (count l) in
        let n = run_length c t (at l) (count l) in
        let low : count l + before (map count ls) k ≤ start = s.low in
        let q : start ≡ length run + (start - count l) = omega (arith, n, low) in
        let inner : Spans (map count ls) (start - count l) len k = record {
          inside = omega (arith, s.inside);
          low = omega (arith, low);
          high = omega (arith, s.high, low);
        } in
        let e : start - count l - before (map count ls) k ≡ start - (count l + before (map count ls) k) = omega (arith, low) in
        ap (λ (x : ℕ). take len (drop x (run ++ pool_of ls))) q
        ∙ ap (take len) (drop-append-add run (pool_of ls) (start - count l))
        ∙ pool_part ls k (start - count l) len inner
        ∙ ap (λ (x : ℕ). records_at c t (at (layer ls k) + record_size c * x) len) e

-- ---- the layer of a range

-- the layer that a run lies in, the first of the layers beginning at `from`
one_spans : (counts : List ℕ) (from start len : ℕ) → in_one_layer from counts start len ≡ true
    → (k : ℕ) × (k < length counts) × (from + before counts k ≤ start) × (start + len ≤ from + before counts (suc k))
unfolding in_one_layer
one_spans [] from start len e = absurd (false≢true e)
one_spans (n ∷ ns) from start len e =
    ⊎_elim
    (λ x.
    let b = both (leb from start) (leb (start + len) (from + n)) x in
    (0, omega arith, omega (arith, leb-true from start b.0), omega (arith, leb-true (start + len) (from + n) b.1)))
    (λ x.
    let r = one_spans ns (from + n) start len x in
    (suc r.0, omega (arith, r.1), omega (arith, r.2), omega (arith, r.3)))
    (either (leb from start && leb (start + len) (from + n)) (in_one_layer (from + n) ns start len) e)

module _ {counts starts : List ℕ} {layers total : ℕ} (p : Pool counts starts layers total) where
  -- an item lies in the layer that `layer_of` finds
  item_spans : (i : ℕ) → i < total → Spans counts i 1 (layer_of starts layers i)
  item_spans i h = let a = pool_held p i h in record { inside = a.inside; low = a.low; high = omega (arith, a.high) }

  -- and so does a whole range that is not empty
  range_spans : (start len : ℕ) → range_ok counts start (suc len) ≡ true → Spans counts start (suc len) (layer_of starts layers start)
  unfolding range_ok
  range_spans start len e =
      let b = both (leb (start + suc len) (sum counts)) (eqb (suc len) 0 || in_one_layer 0 counts start (suc len)) e in
      let one : in_one_layer 0 counts start (suc len) ≡ true = ⊎_elim (λ z. absurd (let y = eqb-true (suc len) 0 z in omega (arith, y))) (λ x. x) (either (eqb (suc len) 0) (in_one_layer 0 counts start (suc len)) b.1) in
      let r = one_spans counts 0 start (suc len) one in
      let s : Spans counts start (suc len) r.0 = record { inside = r.1; low = omega (arith, r.2); high = omega (arith, r.3) } in
      let here : Held counts start r.0 = record { inside = s.inside; low = s.low; high = omega (arith, s.high) } in
      let l = leb-true (start + suc len) (sum counts) b.0 in
      rw (held_one (pool_held p start (omega (arith, l, p.all))) here) s

-- ---- the three pools of a tape's layers

content_runs : (t : List ℕ) (ls : List LayerPlaces) (b : List ℕ)
    → (store_of (layers_at t ls b)).contents ≡ pool_of content_codec t (λ (l : LayerPlaces). l.contents_at) (λ (l : LayerPlaces). l.content_count) ls
unfolding store_of layers_at layer_at flatten
content_runs t [] b = refl
content_runs t (l ∷ ls) b = ap (λ (x : List Content). records_at content_codec t l.contents_at l.content_count ++ x) (content_runs t ls (drop (sum (string_lengths t l)) b))

segment_runs : (t : List ℕ) (ls : List LayerPlaces) (b : List ℕ)
    → (store_of (layers_at t ls b)).segments ≡ pool_of segment_codec t (λ (l : LayerPlaces). l.segments_at) (λ (l : LayerPlaces). l.segment_count) ls
unfolding store_of layers_at layer_at flatten
segment_runs t [] b = refl
segment_runs t (l ∷ ls) b = ap (λ (x : List Segment). records_at segment_codec t l.segments_at l.segment_count ++ x) (segment_runs t ls (drop (sum (string_lengths t l)) b))

-- the lengths of all strings
unfoldable pub all_lengths : List ℕ → List LayerPlaces → List ℕ
all_lengths t ls = flatten (map (string_lengths t) ls)

length_runs : (t : List ℕ) (ls : List LayerPlaces)
    → all_lengths t ls ≡ pool_of string_codec t (λ (l : LayerPlaces). l.strings_at) (λ (l : LayerPlaces). l.string_count) ls
unfolding all_lengths string_lengths
length_runs t ls = refl

-- ---- what stands at a place

module _ (t : List ℕ) (st : Store) (e : st ≡ store_at t) where
  -- the part of a pool from start on, in the layer that holds start
  content_part : (start len : ℕ) → Spans (contents_in (places t).layers) start len (layer_of st.contents st.layers start)
      → (b : List ℕ) → take len (drop start (store_of (layers_at t (places t).layers b)).contents) ≡ records_at content_codec t (content_place st start) len
  unfolding content_place content_codec
  content_part start len s b =
      let ls = (places t).layers in
      let k = layer_of st.contents st.layers start in
      let r = (runs_at t k (omega (arith, s.inside, length_counts (λ (l : LayerPlaces). l.content_count) ls))).contents in
      let x : string_start st (k + 1) ≡ before (strings_in ls) (suc k) = pool_start_or (string_pool t st e) (k + 1) ∙ ap (before (strings_in ls)) (add-one k) in
      let y : segment_start st k ≡ before (segments_in ls) k = pool_start_or (segment_pool t st e) k in
      let q : (layer ls k).contents_at + 10 * (start - before (contents_in ls) k) ≡ 10 + k + 5 * string_start st (k + 1) + 10 * start + 37 * segment_start st k = omega (arith, r, x, y, s.low) in
      ap (λ (l : List Content). take len (drop start l)) (content_runs t ls b)
      ∙ pool_part content_codec t (λ (l : LayerPlaces). l.contents_at) (λ (l : LayerPlaces). l.content_count) ls k start len s
      ∙ ap (λ (p : ℕ). records_at content_codec t p len) q

  segment_part : (start len : ℕ) → Spans (segments_in (places t).layers) start len (layer_of st.segments st.layers start)
      → (b : List ℕ) → take len (drop start (store_of (layers_at t (places t).layers b)).segments) ≡ records_at segment_codec t (segment_place st start) len
  unfolding segment_place segment_codec
  segment_part start len s b =
      let ls = (places t).layers in
      let k = layer_of st.segments st.layers start in
      let r = (runs_at t k (omega (arith, s.inside, length_counts (λ (l : LayerPlaces). l.segment_count) ls))).segments in
      let x : string_start st (k + 1) ≡ before (strings_in ls) (suc k) = pool_start_or (string_pool t st e) (k + 1) ∙ ap (before (strings_in ls)) (add-one k) in
      let y : content_start st (k + 1) ≡ before (contents_in ls) (suc k) = pool_start_or (content_pool t st e) (k + 1) ∙ ap (before (contents_in ls)) (add-one k) in
      let q : (layer ls k).segments_at + 37 * (start - before (segments_in ls) k) ≡ 10 + k + 5 * string_start st (k + 1) + 10 * content_start st (k + 1) + 37 * start = omega (arith, r, x, y, s.low) in
      ap (λ (l : List Segment). take len (drop start l)) (segment_runs t ls b)
      ∙ pool_part segment_codec t (λ (l : LayerPlaces). l.segments_at) (λ (l : LayerPlaces). l.segment_count) ls k start len s
      ∙ ap (λ (p : ℕ). records_at segment_codec t p len) q

  pub length_part : (start len : ℕ) → Spans (strings_in (places t).layers) start len (layer_of st.strings st.layers start)
      → take len (drop start (all_lengths t (places t).layers)) ≡ records_at string_codec t (string_place st start) len
  unfolding string_place string_codec
  length_part start len s =
      let ls = (places t).layers in
      let k = layer_of st.strings st.layers start in
      let r = (runs_at t k (omega (arith, s.inside, length_counts (λ (l : LayerPlaces). l.string_count) ls))).strings in
      let x : content_start st k ≡ before (contents_in ls) k = pool_start_or (content_pool t st e) k in
      let y : segment_start st k ≡ before (segments_in ls) k = pool_start_or (segment_pool t st e) k in
      let q : (layer ls k).strings_at + 5 * (start - before (strings_in ls) k) ≡ 10 + k + 5 * start + 10 * content_start st k + 37 * segment_start st k = omega (arith, r, x, y, s.low) in
      ap (λ (l : List ℕ). take len (drop start l)) (length_runs t ls)
      ∙ pool_part string_codec t (λ (l : LayerPlaces). l.strings_at) (λ (l : LayerPlaces). l.string_count) ls k start len s
      ∙ ap (λ (p : ℕ). records_at string_codec t p len) q

-- an item is what its range of length 1 shows
one_item : {A : Type 0} (pool : List A) (c : Codec A) (t : List ℕ) (i p : ℕ) (default : A) → take 1 (drop i pool) ≡ records_at c t p 1 → get_or pool i default ≡ record_at c t p
unfolding records_at
one_item pool c t i p default e =
    let q : p + record_size c * 0 ≡ p = ap (λ (k : ℕ). p + k) (mul-zero (record_size c)) ∙ add-zero p in
    ap (λ (k : ℕ). get_or pool k default) (sym (add-zero i)) ∙ sym (get_or-drop i pool 0 default) ∙ sym (get_or-take 1 (drop i pool) 0 default (omega arith))
    ∙ ap (λ l. get_or l 0 default) e ∙ ap (record_at c t) q

module _ (t : List ℕ) (st : Store) (e : st ≡ store_at t) (b : List ℕ) where
  -- The record at `content_place` is the content of that number.
  pub content_at_lem : (i : ℕ) → i < st.totals.contents → (default : Content)
      → get_or (store_of (layers_at t (places t).layers b)).contents i default ≡ record_at content_codec t (content_place st i)
  content_at_lem i h default =
      one_item (store_of (layers_at t (places t).layers b)).contents content_codec t i (content_place st i) default (content_part t st e i 1 (item_spans (content_pool t st e) i h) b)

  pub segment_at_lem : (i : ℕ) → i < st.totals.segments → (default : Segment)
      → get_or (store_of (layers_at t (places t).layers b)).segments i default ≡ record_at segment_codec t (segment_place st i)
  segment_at_lem i h default =
      one_item (store_of (layers_at t (places t).layers b)).segments segment_codec t i (segment_place st i) default (segment_part t st e i 1 (item_spans (segment_pool t st e) i h) b)

  -- A range that passes number 4 is a run of records from its start's place on.
  pub content_range_lem : (start len : ℕ) → range_in st.contents st.layers st.totals.contents start len ≡ true
      → resolve_content_range (store_of (layers_at t (places t).layers b)) start len ≡ records_at content_codec t (content_place st start) len
  unfolding resolve_content_range records_at
  content_range_lem start zero h = refl
  content_range_lem start (suc len) h = content_part t st e start (suc len) (range_spans (content_pool t st e) start len (sym (pool_range (content_pool t st e) start (suc len)) ∙ h)) b

  pub segment_range : (start len : ℕ) → range_in st.segments st.layers st.totals.segments start len ≡ true
      → resolve_seg_range (store_of (layers_at t (places t).layers b)) start len ≡ records_at segment_codec t (segment_place st start) len
  unfolding resolve_seg_range records_at
  segment_range start zero h = refl
  segment_range start (suc len) h = segment_part t st e start (suc len) (range_spans (segment_pool t st e) start len (sym (pool_range (segment_pool t st e) start (suc len)) ∙ h)) b

-- ---- strings

-- the strings of all layers are pieces of one run of bytes, by all their lengths
pieces_append : (ns ms b : List ℕ) → pieces (ns ++ ms) b ≡ pieces ns b ++ pieces ms (drop (sum ns) b)
unfolding pieces
pieces_append [] ms b = refl
pieces_append (n ∷ ns) ms b =
    ap (λ (l : List (List ℕ)). take n b ∷ l) (pieces_append ns ms (drop n b) ∙ ap (λ (x : List ℕ). pieces ns (drop n b) ++ pieces ms x) (drop-drop (sum ns) n b))

pub strings_pieces : (t : List ℕ) (ls : List LayerPlaces) (b : List ℕ) → (store_of (layers_at t ls b)).strings ≡ pieces (all_lengths t ls) b
unfolding store_of layers_at layer_at flatten all_lengths pieces
strings_pieces t [] b = refl
strings_pieces t (l ∷ ls) b =
    ap (λ (x : List (List ℕ)). pieces (string_lengths t l) b ++ x) (strings_pieces t ls (drop (sum (string_lengths t l)) b))
    ∙ sym (pieces_append (string_lengths t l) (flatten (map (string_lengths t) ls)) b)

piece_at : (ns b : List ℕ) (i : ℕ) → i < length ns → get_or (pieces ns b) i [] ≡ take (get_or ns i 0) (drop (sum (take i ns)) b)
unfolding pieces
piece_at [] b i h = absurd (omega arith)
piece_at (n ∷ ns) b zero h = refl
piece_at (n ∷ ns) b (suc i) h = piece_at ns (drop n b) i (omega arith) ∙ ap (λ (x : List ℕ). take (get_or ns i 0) x) (drop-drop (sum (take i ns)) n b)

pub length_pools : (t : List ℕ) (ls : List LayerPlaces) → length (all_lengths t ls) ≡ sum (strings_in ls)
unfolding all_lengths flatten string_lengths
length_pools t [] = refl
length_pools t (l ∷ ls) =
    length-append (records_at string_codec t l.strings_at l.string_count) (flatten (map (string_lengths t) ls))
    ∙ ap₂ (λ (x y : ℕ). x + y) (run_length string_codec t l.strings_at l.string_count) (length_pools t ls)

module _ (t : List ℕ) (st : Store) (e : st ≡ store_at t) where
  -- The record at `string_place` has the length of the string of that number.
  pub length_at : (i : ℕ) → i < st.totals.strings → get_or (all_lengths t (places t).layers) i 0 ≡ record_at string_codec t (string_place st i)
  length_at i h = one_item (all_lengths t (places t).layers) string_codec t i (string_place st i) 0 (length_part t st e i 1 (item_spans (string_pool t st e) i h))

  -- A string is that many bytes, behind the bytes of all strings before it.
  pub string_at_lem : (b : List ℕ) (i : ℕ) → i < st.totals.strings
      → get_or (store_of (layers_at t (places t).layers b)).strings i [] ≡ take (record_at string_codec t (string_place st i)) (drop (sum (take i (all_lengths t (places t).layers))) b)
  string_at_lem b i h =
      let ls = (places t).layers in
      let n = length_pools t ls in
      ap (λ (l : List (List ℕ)). get_or l i []) (strings_pieces t ls b)
      ∙ piece_at (all_lengths t ls) b i (omega (arith, n, (string_pool t st e).all, h))
      ∙ ap (λ (x : ℕ). take x (drop (sum (take i (all_lengths t ls))) b)) (length_at i h)

-- ---- inside the tape

module _ (t : List ℕ) (st : Store) (e : st ≡ store_at t) where
  -- the records of a run in a pool stand before the nodes
  pub content_inside : (start len : ℕ) → start < st.totals.contents → start + len ≤ st.totals.contents → content_place st start + 10 * len ≤ (places t).nodes_at
  unfolding content_place
  content_inside start len h l =
      let ls = (places t).layers in
      let p = content_pool t st e in
      let k = layer_of st.contents st.layers start in
      let a = pool_held p start h in
      let n = length_counts (λ (x : LayerPlaces). x.content_count) ls in
      let x : string_start st (k + 1) ≡ before (strings_in ls) (k + 1) = pool_start_or (string_pool t st e) (k + 1) in
      let y : segment_start st k ≡ before (segments_in ls) k = pool_start_or (segment_pool t st e) k in
      omega (arith, nodes_place t, a.inside, n, x, y, before_most (strings_in ls) (k + 1), before_most (segments_in ls) k, p.all, l)

  pub segment_inside : (start len : ℕ) → start < st.totals.segments → start + len ≤ st.totals.segments → segment_place st start + 37 * len ≤ (places t).nodes_at
  unfolding segment_place
  segment_inside start len h l =
      let ls = (places t).layers in
      let p = segment_pool t st e in
      let k = layer_of st.segments st.layers start in
      let a = pool_held p start h in
      let n = length_counts (λ (x : LayerPlaces). x.segment_count) ls in
      let x : string_start st (k + 1) ≡ before (strings_in ls) (k + 1) = pool_start_or (string_pool t st e) (k + 1) in
      let y : content_start st (k + 1) ≡ before (contents_in ls) (k + 1) = pool_start_or (content_pool t st e) (k + 1) in
      omega (arith, nodes_place t, a.inside, n, x, y, before_most (strings_in ls) (k + 1), before_most (contents_in ls) (k + 1), p.all, l)

  pub string_inside : (start len : ℕ) → start < st.totals.strings → start + len ≤ st.totals.strings → string_place st start + 5 * len ≤ (places t).nodes_at
  unfolding string_place
  string_inside start len h l =
      let ls = (places t).layers in
      let p = string_pool t st e in
      let k = layer_of st.strings st.layers start in
      let a = pool_held p start h in
      let n = length_counts (λ (x : LayerPlaces). x.string_count) ls in
      let x : content_start st k ≡ before (contents_in ls) k = pool_start_or (content_pool t st e) k in
      let y : segment_start st k ≡ before (segments_in ls) k = pool_start_or (segment_pool t st e) k in
      omega (arith, nodes_place t, a.inside, n, x, y, before_most (contents_in ls) k, before_most (segments_in ls) k, p.all, l)
