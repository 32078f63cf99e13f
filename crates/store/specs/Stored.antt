-- Section 3: the store of a tape's layers, and the loop that fills it.
use Rattle.std.specs.Prelude.{◌≡◌, refl, ℕ, suc, ◌+◌, ◌≤◌, ◌<◌, ◌^◌, List, [], ◌∷◌, ◌++◌, length, get_or, take, set}
use Rattle.std.proofs.Common.{sym, ap, ◌∙◌, arith, add-one, zero-add, take-suc, take_all, length-take-le}
use Rattle.model.specs.Lists.{sum}
use Rattle.model.specs.Bytes.{zeros}
use Rattle.model.specs.Store.{layer_starts}
use Rattle.model.specs.Tape.{LayerPlaces, layer_places, places}
use Rattle.wire.specs.Overwrite.{overwrite, overwrite_push, overwrite_nil, overwrite_zeros}
use Rattle.places.specs.declared.LayerRuns.{LayerRuns}
use Rattle.places.specs.declared.Places.{Places}
use Rattle.places.specs.Found.{layer_runs, strings_in, contents_in, segments_in, found}
use Rattle.places.specs.Again.{AtLayer, Frame, at_first, at_inside, at_count, at_next, length_counts, nodes_inside}
use Rattle.store.specs.Pools.{starts_of, before, before_mono, before_all, before_next, length_starts, start_at}
use Rattle.store.specs.declared.Totals.{Totals}
use Rattle.store.specs.declared.Store.{Store}

-- ---- definitions

abbrev pub totals_of : List LayerPlaces → Totals
totals_of ls = record { strings = sum (strings_in ls); contents = sum (contents_in ls); segments = sum (segments_in ls) }

-- Section 3. Where each layer begins, in each of the three pools.
unfoldable pub store_at : List ℕ → Store
store_at t =
    let ls = (places t).layers in
    record {
      layers = length ls;
      strings = starts_of (strings_in ls);
      contents = starts_of (contents_in ls);
      segments = starts_of (segments_in ls);
      totals = totals_of ls;
    }

-- what `places_of` must have shown, and number 3
pub record StoreFits (t : List ℕ) (layers : ℕ) : Type 0 where
  pub count : layers ≡ length (places t).layers
  pub few : layers ≤ 32
  pub strings : sum (strings_in (places t).layers) < 2 ^ 32
  pub contents : sum (contents_in (places t).layers) < 2 ^ 32
  pub segments : sum (segments_in (places t).layers) < 2 ^ 32

-- a layer's counts added
abbrev pub add_runs : Totals → LayerRuns → Totals
add_runs a l = record { strings = a.strings + l.strings.count; contents = a.contents + l.contents.count; segments = a.segments + l.segments.count }

-- ---- from the places that were found

pub found_fits : (t : List ℕ) (p : Places) → p ≡ found t → p.layers ≤ 32 → p.strings < 2 ^ 32 → p.contents < 2 ^ 32 → p.segments < 2 ^ 32 → StoreFits t p.layers
unfolding found
found_fits t p e few a b g =
    let n = ap (λ (x : Places). x.layers) e in
    let s = ap (λ (x : Places). x.strings) e in
    let u = ap (λ (x : Places). x.contents) e in
    let v = ap (λ (x : Places). x.segments) e in
    record { count = n; few = omega (arith, few); strings = omega (arith, s, a); contents = omega (arith, u, b); segments = omega (arith, v, g) }

-- ---- one pool, after i layers

pub record Filled (counts : List ℕ) (i : ℕ) (arr : List ℕ) (total : ℕ) : Type 0 where
  pub starts : arr ≡ overwrite (zeros 32) 0 (take i (layer_starts 0 counts))
  pub summed : total ≡ before counts i

filled_none : (counts : List ℕ) → Filled counts 0 (zeros 32) 0
filled_none counts = record { starts = overwrite_nil (zeros 32) 0; summed = refl }

filled_more : {counts : List ℕ} {i : ℕ} {arr : List ℕ} {total : ℕ} → Filled counts i arr total → (n : ℕ) → i < length counts → i < 32 → n ≡ get_or counts i 0
    → Filled counts (i + 1) (set arr i total) (total + n)
filled_more {counts} {i} {arr} {total} f n h few e =
    let starts = layer_starts 0 counts in
    let l = length_starts counts 0 in
    let m : length (take i starts) ≡ i = length-take-le i starts (omega arith) in
    let s : get_or starts i 0 ≡ total = start_at counts 0 i h ∙ zero-add (before counts i) ∙ sym f.summed in
    let grown : take (i + 1) starts ≡ take i starts ++ (total ∷ []) =
    ap (λ (k : ℕ). take k starts) (add-one i) ∙ take-suc starts i 0 (omega arith) ∙ ap (λ (x : ℕ). take i starts ++ (x ∷ [])) s in
    record {
      starts =
          ap (λ (x : List ℕ). set x i total) f.starts ∙ overwrite_push (zeros 32) 0 (take i starts) i total (omega arith) few
          ∙ ap (overwrite (zeros 32) 0) (sym grown);
      summed = let b = before_next counts i in omega (arith, f.summed, e, b, ap (before counts) (add-one i));
    }

filled_all : {counts : List ℕ} {i : ℕ} {arr : List ℕ} {total : ℕ} → Filled counts i arr total → i ≡ length counts → (arr ≡ starts_of counts) × (total ≡ sum counts)
unfolding starts_of
filled_all {counts} {i} f e = (
  f.starts ∙ ap (overwrite (zeros 32) 0) (take_all i (layer_starts 0 counts) (omega (arith, length_starts counts 0, e))) ∙ overwrite_zeros 32 (layer_starts 0 counts),
  f.summed ∙ before_all counts i (omega (arith, e)),
)

-- ---- all three, and the next layer's place

pub record Filling (t : List ℕ) (i at : ℕ) (strings contents segments : List ℕ) (totals : Totals) : Type 0 where
  pub place : AtLayer t i at
  pub first : Filled (strings_in (places t).layers) i strings totals.strings
  pub second : Filled (contents_in (places t).layers) i contents totals.contents
  pub third : Filled (segments_in (places t).layers) i segments totals.segments

pub filling_none : (t : List ℕ) → Filling t 0 9 (zeros 32) (zeros 32) (zeros 32) (record { strings = 0; contents = 0; segments = 0 })
filling_none t = record {
  place = at_first t;
  first = filled_none _;
  second = filled_none _;
  third = filled_none _;
}

module _ {t : List ℕ} {i at : ℕ} {strings contents segments : List ℕ} {totals : Totals} (f : Filling t i at strings contents segments totals)
    {layers : ℕ} (fits : StoreFits t layers) (h : i < layers) where
  inside : i < length (places t).layers
  inside = omega (arith, fits.count, h)

  pub filling_inside : at < length t
  filling_inside = at_inside f.place inside

  fits_one : (counts : List ℕ) (total n : ℕ) → total ≡ before counts i → n ≡ get_or counts i 0 → sum counts < 2 ^ 32 → total + n < 2 ^ 32
  fits_one counts total n e q l =
      let b = before_next counts i in
      let m = before_mono counts (suc i) (suc i + length counts) (omega arith) in
      let a = before_all counts (suc i + length counts) (omega arith) in
      omega (arith, b, m, a, e, q, l)

  module _ {l : LayerRuns} (e : l ≡ layer_runs (layer_places t at)) where
    strings_at_lem : l.strings.count ≡ get_or (strings_in (places t).layers) i 0
    strings_at_lem = ap (λ (x : LayerRuns). x.strings.count) e ∙ at_count f.place inside (λ (x : LayerPlaces). x.string_count)

    contents_at_lem : l.contents.count ≡ get_or (contents_in (places t).layers) i 0
    contents_at_lem = ap (λ (x : LayerRuns). x.contents.count) e ∙ at_count f.place inside (λ (x : LayerPlaces). x.content_count)

    segments_at_lem : l.segments.count ≡ get_or (segments_in (places t).layers) i 0
    segments_at_lem = ap (λ (x : LayerRuns). x.segments.count) e ∙ at_count f.place inside (λ (x : LayerPlaces). x.segment_count)

    pub filling_fits : (totals.strings + l.strings.count < 2 ^ 32) × (totals.contents + l.contents.count < 2 ^ 32) × (totals.segments + l.segments.count < 2 ^ 32)
    filling_fits = (
      fits_one (strings_in (places t).layers) totals.strings l.strings.count f.first.summed strings_at_lem fits.strings,
      fits_one (contents_in (places t).layers) totals.contents l.contents.count f.second.summed contents_at_lem fits.contents,
      fits_one (segments_in (places t).layers) totals.segments l.segments.count f.third.summed segments_at_lem fits.segments,
    )

    pub filling_more : {r : Totals} → r ≡ add_runs totals l
        → Filling t (i + 1) l.end (set strings i totals.strings) (set contents i totals.contents) (set segments i totals.segments) r
    filling_more {r} q =
        let few : i < 32 = omega (arith, fits.few, h) in
        rw q (record {
          place = at_next f.place inside e;
          first = filled_more f.first l.strings.count (omega (arith, length_counts (λ (x : LayerPlaces). x.string_count) (places t).layers, inside)) few strings_at_lem;
          second = filled_more f.second l.contents.count (omega (arith, length_counts (λ (x : LayerPlaces). x.content_count) (places t).layers, inside)) few contents_at_lem;
          third = filled_more f.third l.segments.count (omega (arith, length_counts (λ (x : LayerPlaces). x.segment_count) (places t).layers, inside)) few segments_at_lem;
        })

pub filling_all : {t : List ℕ} {i at : ℕ} {strings contents segments : List ℕ} {totals : Totals} → Filling t i at strings contents segments totals
    → {layers : ℕ} → StoreFits t layers → i ≡ layers
    → ◌≡◌ {A = Store} (record { layers = layers; strings = strings; contents = contents; segments = segments; totals = totals }) (store_at t)
unfolding store_at
filling_all {t} {i} {at} {strings} {contents} {segments} {totals} f {layers} fits e =
    let ls = (places t).layers in
    let n = e ∙ fits.count in
    let a = filled_all f.first (n ∙ sym (length_counts (λ (x : LayerPlaces). x.string_count) ls)) in
    let b = filled_all f.second (n ∙ sym (length_counts (λ (x : LayerPlaces). x.content_count) ls)) in
    let g = filled_all f.third (n ∙ sym (length_counts (λ (x : LayerPlaces). x.segment_count) ls)) in
    λ j. record {
      layers = fits.count j;
      strings = a.0 j;
      contents = b.0 j;
      segments = g.0 j;
      totals = record { strings = a.1 j; contents = b.1 j; segments = g.1 j };
    }

-- ---- the store of a tape

pub stored_layers : (t : List ℕ) {st : Store} → st ≡ store_at t → st.layers ≡ length (places t).layers
unfolding store_at
stored_layers t e = ap (λ (x : Store). x.layers) e

-- and the tape's pools lie inside it
pub record OfTape (t : List ℕ) (st : Store) : Type 0 where
  pub stored : st ≡ store_at t
  pub few : st.layers ≤ 32
  pub inside : (places t).nodes_at ≤ length t

pub of_tape : (t d : List ℕ) → Frame t d → (st : Store) → st ≡ store_at t → st.layers ≤ 32 → OfTape t st
of_tape t d f st e few = let n = nodes_inside t d f in record { stored = e; few = few; inside = omega (arith, n) }
