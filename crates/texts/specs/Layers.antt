-- Number 2, the strings of all layers: what a loop over them knows before layer i, whose 2 stands at `at` and whose strings
-- stand at `place`.
use Rattle.std.specs.Prelude.{◌≡◌, refl, ℕ, suc, ◌+◌, ◌≤◌, ◌<◌, Bool, true, false, ◌&&◌, List, [], ◌∷◌, length, drop, Option, Some}
use Rattle.std.proofs.Common.{sym, ap, ◌∙◌, arith, add-one, drop_of_length-le, drop-cons, drop-drop}
use Rattle.model.specs.Lists.{all, sum}
use Rattle.model.specs.Types.{Layer}
use Rattle.model.specs.Utf8.{utf8}
use Rattle.model.specs.Tape.{LayerPlaces, layer_places, places, records_at, string_codec, string_lengths, layer_at, layers_at, pieces}
use Rattle.facts.specs.Truth.{both}
use Rattle.laws.specs.RoundTrip.{string_bytes}
use Rattle.places.specs.declared.LayerRuns.{LayerRuns}
use Rattle.places.specs.Found.{layer_runs}
use Rattle.places.specs.Again.{AtLayer, at_first, at_here}
use Rattle.places.specs.Walked.{nth_runs, nth_here, nth_next}
use Rattle.texts.specs.Strings.{pieces_behind, strings_end, end_none, end_some}

-- each string of a layer by itself
abbrev pub layer_utf8 : Layer → Bool
layer_utf8 l = all utf8 l.strings

-- the strings of layers, the first at the head of b
abbrev pub layers_utf8 : List ℕ → List LayerPlaces → List ℕ → Bool
layers_utf8 t ls b = all layer_utf8 (layers_at t ls b)

-- where each string of each layer is UTF-8 the bytes behind them decide
pub layers_behind : (t : List ℕ) (ls : List LayerPlaces) (b : List ℕ) → layers_utf8 t ls b ≡ true → utf8 b ≡ utf8 (drop (string_bytes t ls) b)
unfolding layers_at layer_at
layers_behind t [] b e = refl
layers_behind t (l ∷ ls) b e =
    let ns = string_lengths t l in
    let w = both (all utf8 (pieces ns b)) (layers_utf8 t ls (drop (sum ns) b)) e in
    pieces_behind ns b w.0 ∙ layers_behind t ls (drop (sum ns) b) w.1 ∙ ap utf8 (drop-drop (string_bytes t ls) (sum ns) b)

pub record LayersLeft (t d : List ℕ) (from i at place : ℕ) : Type 0 where
  pub here : AtLayer t i at
  pub is : layers_utf8 t (places t).layers (drop from d) ≡ layers_utf8 t (drop i (places t).layers) (drop place d)
  pub bytes : from + string_bytes t (places t).layers ≡ place + string_bytes t (drop i (places t).layers)
  pub whole : utf8 (drop place d) ≡ true

pub layers_none : (t d : List ℕ) (from : ℕ) → utf8 (drop from d) ≡ true → LayersLeft t d from 0 9 from
layers_none t d from w = record { here = at_first t; is = refl; bytes = refl; whole = w }

module _ {t d : List ℕ} {from i at place : ℕ} (s : LayersLeft t d from i at place) where
  module _ (inside : i < length (places t).layers) where
    left : drop i (places t).layers ≡ layer_places t at ∷ drop (i + 1) (places t).layers
    left =
        let ls = (places t).layers in
        drop-cons ls i (layer_places t at) inside
        ∙ ap (λ (x : LayerPlaces). x ∷ drop (suc i) ls) (at_here s.here inside (layer_places t at))
        ∙ ap (λ (k : ℕ). layer_places t at ∷ drop k ls) (sym (add-one i))

    total : place + (sum (string_lengths t (layer_places t at)) + string_bytes t (drop (i + 1) (places t).layers)) ≡ from + string_bytes t (places t).layers
    total = let q = ap (string_bytes t) left in omega (arith, q, s.bytes)

    module _ {l : LayerRuns} (is : l ≡ nth_runs t i) where
      e : l ≡ layer_runs (layer_places t at)
      e = is ∙ nth_here s.here inside

      lengths : records_at string_codec t l.strings.at l.strings.count ≡ string_lengths t (layer_places t at)
      unfolding string_lengths
      lengths = ap (λ (x : LayerRuns). records_at string_codec t x.strings.at x.strings.count) e

      -- as `strings_end` asks
      pub layers_bytes : from + string_bytes t (places t).layers ≤ length d → place + sum (records_at string_codec t l.strings.at l.strings.count) ≤ length d
      layers_bytes fits = let q = ap sum lengths in omega (arith, q, total, fits)

      split : layers_utf8 t (places t).layers (drop from d)
          ≡ (all utf8 (pieces (records_at string_codec t l.strings.at l.strings.count) (drop place d))
          && layers_utf8 t (drop (i + 1) (places t).layers) (drop (place + sum (string_lengths t (layer_places t at))) d))
      unfolding layers_at layer_at
      split =
          let ls = drop (i + 1) (places t).layers in
          let ns = string_lengths t (layer_places t at) in
          s.is ∙ ap (λ (x : List LayerPlaces). layers_utf8 t x (drop place d)) left
          ∙ ap (λ (x : List ℕ). all utf8 (pieces ns (drop place d)) && layers_utf8 t ls x) (drop-drop (sum ns) place d)
          ∙ ap (λ (x : List ℕ). all utf8 (pieces x (drop place d)) && layers_utf8 t ls (drop (place + sum ns) d)) (sym lengths)

      module _ {o : Option ℕ} (q : o ≡ strings_end (records_at string_codec t l.strings.at l.strings.count) d place) where
        pub layers_bad : ((r : ℕ) → o ≡ Some r → ⊥) → false ≡ layers_utf8 t (places t).layers (drop from d)
        layers_bad n = sym (split ∙ rw (end_none _ d place q n) refl)

        pub layers_more : {end : ℕ} → o ≡ Some end → LayersLeft t d from (i + 1) l.end end
        layers_more {end} h =
            let ns = records_at string_codec t l.strings.at l.strings.count in
            let w = end_some ns d place q h in
            let m : end ≡ place + sum (string_lengths t (layer_places t at)) = w.1 ∙ ap (λ (x : List ℕ). place + sum x) lengths in
            record {
              here = nth_next s.here inside is;
              is = split ∙ rw w.0 (ap (λ (k : ℕ). layers_utf8 t (drop (i + 1) (places t).layers) (drop k d)) (sym m));
              bytes = omega (arith, total, m);
              whole = ap (λ (k : ℕ). utf8 (drop k d)) w.1 ∙ ap utf8 (sym (drop-drop (sum ns) place d)) ∙ sym (pieces_behind ns (drop place d) w.0) ∙ s.whole;
            }

  pub layers_all : i ≡ length (places t).layers → true ≡ layers_utf8 t (places t).layers (drop from d)
  unfolding layers_at
  layers_all h =
      sym (s.is ∙ ap (λ (x : List LayerPlaces). layers_utf8 t x (drop place d)) (drop_of_length-le (places t).layers {i = i} (omega (arith, h))))
