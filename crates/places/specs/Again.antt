-- The layers walked again: what a loop over `next_layer` knows at layer i, whose 2 stands at `at`.
use Rattle.std.specs.Prelude.{Some, None, ◌≡◌, refl, ℕ, zero, suc, ◌+◌, ◌-◌, ◌*◌, ◌≤◌, ◌<◌, Bool, true, false, cond, not, ◌&&◌, List, [], ◌∷◌, map, length, get_or, drop, eqb}
use Rattle.std.proofs.Common.{sym, ap₂, ◌∙◌, arith, add-one, length-drop, eqb-true}
use Rattle.std.proofs.Math.Path.{ap}
use Rattle.std.proofs.Math.Nat.{sub-zero}
use Rattle.std.proofs.lemmas.Bool.{false≢true}
use Rattle.std.proofs.lemmas.Option.{none-some, same_Some}
use Rattle.std.proofs.Math.Option.{none}
use Rattle.model.specs.Lists.{sum, is_empty}
use Rattle.model.specs.Bytes.{byte_at}
use Rattle.model.specs.Tape.{LayerPlaces, layer_places, layers_from, layers_end, places, framed, bytes_needed, book_at, if_shaped, parse, node_codec, pair_codec, container_codec, diagnostic_codec}
use Rattle.facts.specs.Truth.{both, by_bool}
use Rattle.laws.specs.RoundTrip.{layer_end, layers_rise}
use Rattle.places.specs.Found.{layer_runs, strings_in, contents_in, segments_in, two_inside, holds, found, places_of}
use Rattle.places.specs.declared.LayerRuns.{LayerRuns}
use Rattle.places.specs.declared.Places.{Places}

-- ---- lists

-- layers that are not at their end begin with a 2
pub layers_cons : (t : List ℕ) (n p : ℕ) → 0 < length (layers_from n t p)
    → (byte_at t p ≡ 2) × (0 < n) × (layers_from n t p ≡ layer_places t p ∷ layers_from (n - 1) t (layer_places t p).end_at)
unfolding layers_from
layers_cons t zero p h = absurd (omega arith)
layers_cons t (suc n) p h =
    let r = go (eqb (byte_at t p) 2) refl h in
    let m : n ≡ suc n - 1 = omega arith in
    (r.0, r.1, r.2 ∙ ap (λ (k : ℕ). layer_places t p ∷ layers_from k t (layer_places t p).end_at) m)
  where
    go : (x : Bool) → eqb (byte_at t p) 2 ≡ x → 0 < length (cond x (layer_places t p ∷ layers_from n t (layer_places t p).end_at) [])
        → (byte_at t p ≡ 2) × (0 < suc n) × (cond x (layer_places t p ∷ layers_from n t (layer_places t p).end_at) [] ≡ layer_places t p ∷ layers_from n t (layer_places t p).end_at)
    go true e l = (eqb-true (byte_at t p) 2 e, omega arith, refl)
    go false e l = absurd (omega arith)

pub length_counts : (f : LayerPlaces → ℕ) (ls : List LayerPlaces) → length (map f ls) ≡ length ls
length_counts f [] = refl
length_counts f (l ∷ ls) = ap suc (length_counts f ls)

-- the first of what is left
first_left : (i : ℕ) (ls : List LayerPlaces) (x : LayerPlaces) (xs : List LayerPlaces) → drop i ls ≡ x ∷ xs → (default : LayerPlaces) → get_or ls i default ≡ x
first_left zero ls x xs e default = ap (λ (l : List LayerPlaces). get_or l 0 default) e
first_left (suc i) [] x xs e default = absurd (let z = ap length e in omega (arith, z))
first_left (suc i) (y ∷ ys) x xs e default = first_left i ys x xs e default

first_count : (f : LayerPlaces → ℕ) (i : ℕ) (ls : List LayerPlaces) (x : LayerPlaces) (xs : List LayerPlaces) → drop i ls ≡ x ∷ xs → get_or (map f ls) i 0 ≡ f x
first_count f zero ls x xs e = ap (λ (l : List LayerPlaces). get_or (map f l) 0 0) e
first_count f (suc i) [] x xs e = absurd (let z = ap length e in omega (arith, z))
first_count f (suc i) (y ∷ ys) x xs e = first_count f i ys x xs e

left_more : (i : ℕ) (ls : List LayerPlaces) (x : LayerPlaces) (xs : List LayerPlaces) → drop i ls ≡ x ∷ xs → drop (suc i) ls ≡ xs
left_more zero ls x xs e = ap (λ (l : List LayerPlaces). drop 1 l) e
left_more (suc i) [] x xs e = absurd (let z = ap length e in omega (arith, z))
left_more (suc i) (y ∷ ys) x xs e = left_more i ys x xs e

ends_left : (i : ℕ) (ls : List LayerPlaces) (p q : ℕ) (x : LayerPlaces) (xs : List LayerPlaces) → drop i ls ≡ x ∷ xs → layers_end p ls ≡ layers_end q (drop i ls)
unfolding layers_end
ends_left zero [] p q x xs e = absurd (let z = ap length e in omega (arith, z))
ends_left zero (y ∷ ys) p q x xs e = refl
ends_left (suc i) [] p q x xs e = absurd (let z = ap length e in omega (arith, z))
ends_left (suc i) (y ∷ ys) p q x xs e = ends_left i ys y.end_at q x xs e

-- ---- a walk

pub record AtLayer (t : List ℕ) (i at : ℕ) : Type 0 where
  pub rest : drop i (places t).layers ≡ layers_from (length t - i) t at

pub at_first : (t : List ℕ) → AtLayer t 0 9
unfolding places
at_first t = record { rest = ap (λ (n : ℕ). layers_from n t 9) (sym (sub-zero (length t))) }

module _ {t : List ℕ} {i at : ℕ} (a : AtLayer t i at) (h : i < length (places t).layers) where
  left : 0 < length (layers_from (length t - i) t at)
  left = let n = ap length (sym a.rest) ∙ length-drop i (places t).layers in omega (arith, n, h)

  -- as `next_layer` asks
  pub at_inside : at < length t
  at_inside = two_inside t at (layers_cons t (length t - i) at left).0

  here : drop i (places t).layers ≡ layer_places t at ∷ layers_from (length t - i - 1) t (layer_places t at).end_at
  here = a.rest ∙ (layers_cons t (length t - i) at left).2

  pub at_here : (default : LayerPlaces) → get_or (places t).layers i default ≡ layer_places t at
  at_here default = first_left i (places t).layers (layer_places t at) _ here default

  pub at_count : (g : LayerPlaces → ℕ) → g (layer_places t at) ≡ get_or (map g (places t).layers) i 0
  at_count g = sym (first_count g i (places t).layers (layer_places t at) _ here)

  module _ {l : LayerRuns} (e : l ≡ layer_runs (layer_places t at)) where
    pub at_next : AtLayer t (i + 1) l.end
    at_next =
        let next : length t - i - 1 ≡ length t - (i + 1) = omega arith in
        let to = ap (λ (x : LayerRuns). x.end) e in
        record {
          rest =
              ap (λ (k : ℕ). drop k (places t).layers) (add-one i) ∙ left_more i (places t).layers (layer_places t at) _ here
              ∙ ap₂ (λ (n p : ℕ). layers_from n t p) next (sym to);
        }

    -- its runs stand before the nodes
    pub at_before : l.end ≤ (places t).nodes_at
    unfolding places layers_end
    at_before =
        let to = ap (λ (x : LayerRuns). x.end) e in
        let ends : layers_end 9 (places t).layers ≡ layers_end (layer_places t at).end_at (layers_from (length t - i - 1) t (layer_places t at).end_at) =
        ends_left i (places t).layers 9 at (layer_places t at) _ here ∙ ap (layers_end at) here in
        let r = layers_rise t (length t - i - 1) (layer_places t at).end_at in
        omega (arith, to, ends, r)

-- ---- the nodes

-- how many bytes layers take
abbrev pub layers_size : List LayerPlaces → ℕ
layers_size ls = length ls + 5 * sum (strings_in ls) + 10 * sum (contents_in ls) + 37 * sum (segments_in ls)

layers_size_lem : (t : List ℕ) (n p : ℕ) → layers_end p (layers_from n t p) ≡ p + layers_size (layers_from n t p)
unfolding layers_end layers_from
layers_size_lem t zero p = omega arith
layers_size_lem t (suc n) p = go (layers_size_lem t n (layer_places t p).end_at) (eqb (byte_at t p) 2)
  where
    rest : List LayerPlaces
    rest = layers_from n t (layer_places t p).end_at

    go : layers_end (layer_places t p).end_at rest ≡ (layer_places t p).end_at + layers_size rest
        → (x : Bool) → layers_end p (cond x (layer_places t p ∷ rest) []) ≡ p + layers_size (cond x (layer_places t p ∷ rest) [])
    go m true = let e = layer_end t p in omega (arith, e, m)
    go m false = omega arith

-- behind the layers come the nodes
pub nodes_place : (t : List ℕ) → (places t).nodes_at ≡ 9 + layers_size (places t).layers
unfolding places
nodes_place t = layers_size_lem t (length t) 9

-- ---- a frame that holds

pub record Frame (t d : List ℕ) : Type 0 where
  pub begins : byte_at t 0 ≡ 1
  pub ends : byte_at t (places t).end_at ≡ 10
  pub size : length t ≡ (places t).end_at + 1
  pub layered : 0 < length (places t).layers
  pub bytes : length d ≡ bytes_needed t (places t)

some_layer : (ls : List LayerPlaces) → not (is_empty ls) ≡ true → 0 < length ls
some_layer [] e = absurd (false≢true e)
some_layer (l ∷ ls) e = omega arith

pub frame : (t d : List ℕ) → holds t d ≡ true → Frame t d
unfolding holds framed
frame t d h =
    let p = places t in
    let a = both (framed t p && not (is_empty p.layers)) (eqb (length d) (bytes_needed t p)) h in
    let b = both (framed t p) (not (is_empty p.layers)) a.0 in
    let c = both (eqb (byte_at t 0) 1 && eqb (byte_at t p.end_at) 10) (eqb (length t) (p.end_at + 1)) b.0 in
    let g = both (eqb (byte_at t 0) 1) (eqb (byte_at t p.end_at) 10) c.0 in
    record {
      begins = eqb-true (byte_at t 0) 1 g.0;
      ends = eqb-true (byte_at t p.end_at) 10 g.1;
      size = eqb-true (length t) (p.end_at + 1) c.1;
      layered = some_layer p.layers b.1;
      bytes = eqb-true (length d) (bytes_needed t p) a.1;
    }

-- the four lists stand inside the tape, one behind the other
pub record ListsInside (t : List ℕ) : Type 0 where
  pub nodes : (places t).nodes_at + 49 * (places t).node_count ≡ (places t).pairs_at
  pub pairs : (places t).pairs_at + 18 * (places t).pair_count ≡ (places t).containers_at
  pub containers : (places t).containers_at + 13 * (places t).container_count ≡ (places t).diagnostics_at
  pub diagnostics : (places t).diagnostics_at + 18 * (places t).diagnostic_count ≡ (places t).end_at

pub lists_inside : (t : List ℕ) → ListsInside t
unfolding places node_codec pair_codec container_codec diagnostic_codec
lists_inside t = record { nodes = refl; pairs = refl; containers = refl; diagnostics = refl }

pub nodes_inside : (t d : List ℕ) → Frame t d → (places t).nodes_at < length t
nodes_inside t d f = let l = lists_inside t in omega (arith, f.size, l.nodes, l.pairs, l.containers, l.diagnostics)

-- ---- what `parse` makes of it

pub record Parsed (t d : List ℕ) (p : Places) : Type 0 where
  pub holding : holds t d ≡ true
  pub is : p ≡ found t
  pub book : parse t d ≡ if_shaped (book_at t (places t) d)

pub places_none : (t d : List ℕ) → places_of t d ≡ None → parse t d ≡ none
unfolding places_of holds parse
places_none t d e =
    by_bool (holds t d)
    (λ b. let q : Some (found t) ≡ None = rw b at e in absurd (none-some (found t) (sym q)))
    (λ b. rw b refl)

pub places_parsed : (t d : List ℕ) {p : Places} → places_of t d ≡ Some p → Parsed t d p
unfolding places_of holds parse
places_parsed t d {p} e =
    by_bool (holds t d)
    (λ b. let q : Some (found t) ≡ Some p = rw b at e in record { holding = b; is = sym (same_Some (found t) p q); book = rw b refl })
    (λ b. let q : None ≡ Some p = rw b at e in absurd (none-some p q))
