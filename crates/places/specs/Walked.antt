-- The layers of a tape by their numbers: where the records of each stand, and a test of each, one after the other.
use Rattle.std.specs.Prelude.{◌≡◌, ℕ, zero, suc, ◌+◌, ◌*◌, ◌≤◌, ◌<◌, Bool, true, false, List, [], ◌∷◌, length, get_or}
use Rattle.std.proofs.Math.Path.{refl, sym, ap, ap₂}
use Rattle.std.proofs.Common.{◌∙◌, arith, add-one, subst}
use Rattle.model.specs.Lists.{all, tabulate}
use Rattle.model.specs.Tape.{LayerPlaces, layer_places, places, string_codec, content_codec, segment_codec}
use Rattle.wire.specs.Loops.{Passed, all_up_to, passed_more, all_passed, all_failed, all_tabulate}
use Rattle.places.specs.declared.LayerRuns.{LayerRuns}
use Rattle.places.specs.declared.Places.{Places}
use Rattle.places.specs.Found.{layer_runs, found}
use Rattle.places.specs.Again.{AtLayer, Frame, at_first, at_here, at_next, at_before, lists_inside}

-- ---- definitions

-- layer k; behind the last one it does not matter
abbrev pub nth_layer : List ℕ → ℕ → LayerPlaces
nth_layer t k = get_or (places t).layers k (layer_places [] 0)

-- where its records stand
unfoldable pub nth_runs : List ℕ → ℕ → LayerRuns
nth_runs t k = layer_runs (nth_layer t k)

-- Section 4. A test of the records of each layer.
unfoldable pub all_layers : (LayerRuns → Bool) → List ℕ → Bool
all_layers f t = all (λ (l : LayerPlaces). f (layer_runs l)) (places t).layers

-- the same of layer k
unfoldable pub layer_test : (LayerRuns → Bool) → List ℕ → ℕ → Bool
layer_test f t k = f (nth_runs t k)

-- ---- a walk

tabulated : {A : Type 0} (xs : List A) (default : A) → tabulate (length xs) (λ (i : ℕ). get_or xs i default) ≡ xs
tabulated [] default = refl
tabulated (x ∷ xs) default = ap (λ l. x ∷ l) (tabulated xs default)

module _ (f : LayerRuns → Bool) (t : List ℕ) where
  tests : all_up_to (length (places t).layers) (layer_test f t) ≡ all_layers f t
  unfolding layer_test nth_runs all_layers
  tests =
      let ls = (places t).layers in
      all_tabulate (λ (l : LayerPlaces). f (layer_runs l)) (length ls) (λ (k : ℕ). nth_layer t k)
      ∙ ap (all (λ (l : LayerPlaces). f (layer_runs l))) (tabulated ls (layer_places [] 0))

  module _ (k : ℕ) {l : LayerRuns} (e : l ≡ nth_runs t k) {r : Bool} (answer : r ≡ f l) where
    here : layer_test f t k ≡ r
    unfolding layer_test
    here = sym (answer ∙ ap f e)

    pub layer_more : r ≡ true → Passed (layer_test f t) k → Passed (layer_test f t) (k + 1)
    layer_more q p = passed_more (layer_test f t) k p (here ∙ q)

    pub layer_failed : k < length (places t).layers → r ≡ false → false ≡ all_layers f t
    layer_failed h q = sym (sym tests ∙ all_failed (layer_test f t) (length (places t).layers) k h (here ∙ q))

  pub layers_passed : {k : ℕ} → k ≡ length (places t).layers → Passed (layer_test f t) k → true ≡ all_layers f t
  layers_passed {k} e p = sym (sym tests ∙ ap (λ n. all_up_to n (layer_test f t)) (sym e) ∙ all_passed (layer_test f t) k p)

-- ---- its places

pub nth_here : {t : List ℕ} {k at : ℕ} → AtLayer t k at → k < length (places t).layers → nth_runs t k ≡ layer_runs (layer_places t at)
unfolding nth_runs
nth_here a h = ap layer_runs (at_here a h (layer_places [] 0))

pub nth_next : {t : List ℕ} {k at : ℕ} → AtLayer t k at → k < length (places t).layers → {l : LayerRuns} → l ≡ nth_runs t k → AtLayer t (k + 1) l.end
nth_next a h e = at_next a h (e ∙ nth_here a h)

some_place : (t : List ℕ) (k : ℕ) → k ≤ length (places t).layers → (at : ℕ) × AtLayer t k at
some_place t zero h = (9, at_first t)
some_place t (suc k) h =
    let a = some_place t k (omega arith) in
    ((layer_places t a.0).end_at, subst (λ n. AtLayer t n (layer_places t a.0).end_at) (add-one k) (at_next a.1 (omega (arith, h)) {l = layer_runs (layer_places t a.0)} refl))

-- what stands in the tape
pub record RunsFit (t : List ℕ) (l : LayerRuns) : Type 0 where
  pub strings : l.strings.at + 5 * l.strings.count ≤ length t
  pub contents : l.contents.at + 10 * l.contents.count ≤ length t
  pub segments : l.segments.at + 37 * l.segments.count ≤ length t

runs_before : (t : List ℕ) (p : ℕ) → (layer_places t p).end_at ≤ length t → RunsFit t (layer_runs (layer_places t p))
unfolding layer_places string_codec content_codec segment_codec
runs_before t p h = record { strings = omega (arith, h); contents = omega (arith, h); segments = omega (arith, h) }

pub runs_fit : {t : List ℕ} {k : ℕ} → (places t).nodes_at ≤ length t → k < length (places t).layers → {l : LayerRuns} → l ≡ nth_runs t k → RunsFit t l
runs_fit {t} {k} n h {l} e =
    let a = some_place t k (omega (arith, h)) in
    let q : l ≡ layer_runs (layer_places t a.0) = e ∙ nth_here a.1 h in
    let b = at_before a.1 h q in
    let end = ap (λ (x : LayerRuns). x.end) q in
    subst (RunsFit t) (sym q) (runs_before t a.0 (omega (arith, b, end, n)))

-- ---- the lists behind them

-- the places of a tape whose records stand in it
pub record PlacesFit (t : List ℕ) (p : Places) : Type 0 where
  pub is : p ≡ found t
  pub inside : (places t).end_at ≤ length t

pub places_fit : (t d : List ℕ) (p : Places) → Frame t d → p ≡ found t → PlacesFit t p
places_fit t d p f e = record { is = e; inside = omega (arith, f.size) }

module _ {t : List ℕ} {p : Places} (f : PlacesFit t p) where
  pub fit_layers : (p.layers ≡ length (places t).layers) × ((places t).nodes_at ≤ length t)
  unfolding found
  fit_layers = let l = lists_inside t in (ap (λ (x : Places). x.layers) f.is, omega (arith, f.inside, l.nodes, l.pairs, l.containers, l.diagnostics))

  pub fit_nodes : p.nodes.at + 49 * p.nodes.count ≤ length t
  unfolding found
  fit_nodes = let l = lists_inside t in rw f.is (omega (arith, f.inside, l.nodes, l.pairs, l.containers, l.diagnostics))

  pub fit_pairs : p.pairs.at + 18 * p.pairs.count ≤ length t
  unfolding found
  fit_pairs = let l = lists_inside t in rw f.is (omega (arith, f.inside, l.pairs, l.containers, l.diagnostics))

  pub fit_containers : p.containers.at + 13 * p.containers.count ≤ length t
  unfolding found
  fit_containers = let l = lists_inside t in rw f.is (omega (arith, f.inside, l.containers, l.diagnostics))

  pub fit_diagnostics : p.diagnostics.at + 18 * p.diagnostics.count ≤ length t
  unfolding found
  fit_diagnostics = let l = lists_inside t in rw f.is (omega (arith, f.inside, l.diagnostics))
