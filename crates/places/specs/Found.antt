-- What `places_of` finds, in the model's terms.
use Rattle.std.specs.Prelude.{Option, Some, None, ◌≡◌, Bool, true, false, cond, not, ◌&&◌, List, [], ◌∷◌, map, eqb, leb}
use Rattle.std.proofs.Math.Path.{refl, sym, ap}
use Rattle.std.proofs.Common.{◌∙◌, lt_of_not-le}
use Prim.Native.Nat.{ℕ, zero, suc, ◌+◌, ◌-◌, ◌*◌, ◌≤◌, ◌<◌}
use native.Mathlib.Omega.{arith}
use Rattle.std.proofs.Math.ListN.{length, get_or-eq_default}
use Rattle.std.proofs.Math.Decide.{dec_le}
use Rattle.std.proofs.Math.Nat.{sub-zero}
use borrow.Author.Tests.{eq-eqb, ne_eqb, eqb-true, leb-true, leb-false}
use Rattle.model.specs.Lists.{sum, is_empty}
use Rattle.model.specs.Bytes.{byte_at, word_at}
use Rattle.model.specs.Tape.{records_at, count_at, string_codec, content_codec, segment_codec, node_codec, pair_codec, container_codec, diagnostic_codec}
use Rattle.model.specs.Tape.{LayerPlaces, layer_places, layers_from, layers_end, places, framed, string_lengths, bytes_needed}
use Rattle.facts.specs.Truth.{by_bool}
use Rattle.laws.specs.RoundTrip.{layer_end, string_bytes}
use Rattle.places.specs.Runs.{capped}
use Rattle.places.specs.Ends.{segments_end, diagnostics_end}
use Rattle.places.specs.declared.LayerRuns.{LayerRuns}
use Rattle.places.specs.declared.ListRuns.{ListRuns}
use Rattle.places.specs.declared.Tally.{Tally}
use Rattle.places.specs.declared.Places.{Places}

-- ---- a layer

abbrev pub layer_runs : LayerPlaces → LayerRuns
layer_runs l = record {
  strings = record { at = l.strings_at; count = l.string_count };
  contents = record { at = l.contents_at; count = l.content_count };
  segments = record { at = l.segments_at; count = l.segment_count };
  end = l.end_at;
}

-- ---- all layers

-- one layer more
abbrev pub add_layer : List ℕ → ℕ → Tally → LayerPlaces → Tally
add_layer t room s l = record {
  count = s.count + 1;
  strings = s.strings + l.string_count;
  contents = s.contents + l.content_count;
  segments = s.segments + l.segment_count;
  bytes = capped room (s.bytes + sum (string_lengths t l));
  end = l.end_at;
}

-- layer after layer
unfoldable pub tally : List ℕ → ℕ → Tally → List LayerPlaces → Tally
tally t room s [] = s
tally t room s (l ∷ ls) = tally t room (add_layer t room s l) ls

abbrev pub no_layers : Tally
no_layers = record { count = 0; strings = 0; contents = 0; segments = 0; bytes = 0; end = 9 }

unfoldable pub tallied : List ℕ → ℕ → Tally
tallied t room = tally t room no_layers (places t).layers

-- ---- the four lists

-- Section 4. Behind the layers, which end at `at`: 6s, 7s, 8s, 9s.
unfoldable pub list_runs : List ℕ → ℕ → ListRuns
list_runs t at =
    let nodes = count_at node_codec t at in
    let pairs_at = at + 49 * nodes in
    let pairs = count_at pair_codec t pairs_at in
    let containers_at = pairs_at + 18 * pairs in
    let containers = count_at container_codec t containers_at in
    let diagnostics_at = containers_at + 13 * containers in
    let diagnostics = count_at diagnostic_codec t diagnostics_at in
    record {
      nodes = record { at = at; count = nodes };
      pairs = record { at = pairs_at; count = pairs };
      containers = record { at = containers_at; count = containers };
      diagnostics = record { at = diagnostics_at; count = diagnostics };
      end = diagnostics_at + 18 * diagnostics;
    }

-- ---- the whole tape

-- Number 1, all but the shapes of the records: what `parse` tests before it looks at them.
unfoldable pub holds : List ℕ → List ℕ → Bool
holds t d = framed t (places t) && not (is_empty (places t).layers) && eqb (length d) (bytes_needed t (places t))

-- the same by what the walk has found
unfoldable pub frame_holds : List ℕ → Tally → ℕ → ℕ → Bool
frame_holds t s end room =
    eqb (byte_at t 0) 1 && eqb (byte_at t end) 10 && eqb (length t) (end + 1) && not (eqb s.count 0) && eqb room (word_at t 1 + word_at t 5 + s.bytes)

-- how many strings, contents and segments layers hold
abbrev pub strings_in : List LayerPlaces → List ℕ
strings_in ls = map (λ (l : LayerPlaces). l.string_count) ls

abbrev pub contents_in : List LayerPlaces → List ℕ
contents_in ls = map (λ (l : LayerPlaces). l.content_count) ls

abbrev pub segments_in : List LayerPlaces → List ℕ
segments_in ls = map (λ (l : LayerPlaces). l.segment_count) ls

unfoldable pub found : List ℕ → Places
found t =
    let p = places t in
    record {
      text = record { 0 = word_at t 1 };
      normalized = record { 0 = word_at t 5 };
      layers = length p.layers;
      strings = sum (strings_in p.layers);
      contents = sum (contents_in p.layers);
      segments = sum (segments_in p.layers);
      nodes = record { at = p.nodes_at; count = p.node_count };
      pairs = record { at = p.pairs_at; count = p.pair_count };
      containers = record { at = p.containers_at; count = p.container_count };
      diagnostics = record { at = p.diagnostics_at; count = p.diagnostic_count };
      end = p.end_at;
    }

-- what the walk has found, put together
abbrev pub found_by : List ℕ → Tally → ListRuns → Places
found_by t s l = record {
  text = record { 0 = word_at t 1 };
  normalized = record { 0 = word_at t 5 };
  layers = s.count;
  strings = s.strings;
  contents = s.contents;
  segments = s.segments;
  nodes = l.nodes;
  pairs = l.pairs;
  containers = l.containers;
  diagnostics = l.diagnostics;
  end = l.end;
}

-- Section 4. Where everything stands, if the frame holds.
unfoldable pub places_of : List ℕ → List ℕ → Option Places
places_of t d = cond (holds t d) (Some (found t)) None

-- ---- how far a layer reaches

byte_inside : (t : List ℕ) (p : ℕ) → (byte_at t p ≡ 0 → ⊥) → p < length t
byte_inside t p h = elim (dec_le (length t) p) [ yes out ↦ absurd (h (get_or-eq_default t 0 out)) | no inside ↦ lt_of_not-le inside ]

pub two_inside : (t : List ℕ) (p : ℕ) → byte_at t p ≡ 2 → p < length t
two_inside t p e = byte_inside t p (λ z. absurd (omega (arith, e, z)))

module _ (t : List ℕ) (p : ℕ) (h : p < length t) where
  layer_near : (layer_places t p).end_at ≤ length t + 36
  unfolding layer_places count_at string_codec content_codec segment_codec
  layer_near = segments_end t p _ h refl _ refl _ refl

-- ---- the loop over the layers

-- counts that cannot overflow: each layer and each record takes a byte at least
pub record Small (t : List ℕ) (room : ℕ) (s : Tally) : Type 0 where
  pub counts : s.count + s.strings + s.contents + s.segments ≤ s.end
  pub near : s.end ≤ length t + 36
  pub bytes : s.bytes ≤ room + 1

-- what is left from here on gives the whole
pub record Walked (t : List ℕ) (room : ℕ) (s : Tally) : Type 0 where
  pub small : Small t room s
  pub is : tally t room s (layers_from (length t - s.count) t s.end) ≡ tallied t room

pub walked_none : (t : List ℕ) (room : ℕ) → Walked t room no_layers
unfolding tallied places
walked_none t room = record {
  small = record { counts = omega arith; near = omega arith; bytes = omega arith };
  is = ap (λ (n : ℕ). tally t room no_layers (layers_from n t 9)) (sub-zero (length t));
}

small_more : (t : List ℕ) (room : ℕ) (s : Tally) → Small t room s → s.end < length t → Small t room (add_layer t room s (layer_places t s.end))
small_more t room s w h =
    let e = layer_end t s.end in
    record {
      counts = omega (arith, e, w.counts);
      near = layer_near t s.end h;
      bytes = omega arith;
    }

layers_more : (t : List ℕ) (n p : ℕ) → byte_at t p ≡ 2 → layers_from (suc n) t p ≡ layer_places t p ∷ layers_from n t (layer_places t p).end_at
unfolding layers_from
layers_more t n p e = rw (eq-eqb (byte_at t p) 2 e) refl

layers_none : (t : List ℕ) (n p : ℕ) → (byte_at t p ≡ 2 → ⊥) → layers_from n t p ≡ []
unfolding layers_from
layers_none t zero p h = refl
layers_none t (suc n) p h = rw (ne_eqb (byte_at t p) 2 h) refl

module _ {t : List ℕ} {room : ℕ} {s : Tally} (w : Walked t room s) where
  pub walked_more : {r : Tally} → byte_at t s.end ≡ 2 → r ≡ add_layer t room s (layer_places t s.end) → Walked t room r
  unfolding tally
  walked_more {r} e q =
      let h = two_inside t s.end e in
      let fuel : length t - s.count ≡ suc (length t - (s.count + 1)) = omega (arith, w.small.counts, h) in
      let step = ap (λ (n : ℕ). layers_from n t s.end) fuel ∙ layers_more t (length t - (s.count + 1)) s.end e in
      rw q (record { small = small_more t room s w.small h; is = sym (ap (tally t room s) step) ∙ w.is })

  pub walked_all : (byte_at t s.end ≡ 2 → ⊥) → s ≡ tallied t room
  unfolding tally
  walked_all h = sym (ap (tally t room s) (layers_none t (length t - s.count) s.end h)) ∙ w.is

pub walked_rises : (t : List ℕ) (room : ℕ) (s r : Tally) → r ≡ add_layer t room s (layer_places t s.end) → s.end < r.end
walked_rises t room s r q = let e = layer_end t s.end in rw q (omega (arith, e))

-- ---- a layer added

pub record LayerSmall (t : List ℕ) (p : ℕ) (l : LayerRuns) : Type 0 where
  pub counts : p + 1 + l.strings.count + l.contents.count + l.segments.count ≤ l.end
  pub near : l.end ≤ length t + 36
  pub strings : l.strings.at + 5 * l.strings.count ≤ length t + 36

layer_strings : (t : List ℕ) (p : ℕ) → (layer_places t p).strings_at ≡ p + 1
unfolding layer_places
layer_strings t p = refl

pub layer_small : (t : List ℕ) (p : ℕ) (l : LayerRuns) → l ≡ layer_runs (layer_places t p) → p < length t → LayerSmall t p l
layer_small t p l e h =
    let a = layer_end t p in
    let b = layer_near t p h in
    let f = layer_strings t p in
    rw e (record { counts = omega (arith, a); near = b; strings = omega (arith, a, b, f) })

capped_in : (room a x : ℕ) → capped room (a + capped room x) ≡ capped room (a + x)
capped_in room a x = omega arith

pub layer_added : (t : List ℕ) (room : ℕ) (s : Tally) (lp : LayerPlaces) (l : LayerRuns) (b m : ℕ) → l ≡ layer_runs lp
    → b ≡ capped room (sum (records_at string_codec t l.strings.at l.strings.count)) → m ≡ capped room (s.bytes + b)
    → ◌≡◌ {A = Tally} (record {
      count = s.count + 1;
      strings = s.strings + l.strings.count;
      contents = s.contents + l.contents.count;
      segments = s.segments + l.segments.count;
      bytes = m;
      end = l.end;
    }) (add_layer t room s lp)
unfolding string_lengths
layer_added t room s lp l b m e f g = rw (g, f, e, capped_in room s.bytes (sum (records_at string_codec t lp.strings_at lp.string_count))) refl

-- ---- the tally is sums

unfoldable totals : List ℕ → ℕ → Tally → List LayerPlaces → Tally
totals t room s ls = record {
  count = s.count + length ls;
  strings = s.strings + sum (strings_in ls);
  contents = s.contents + sum (contents_in ls);
  segments = s.segments + sum (segments_in ls);
  bytes = capped room (s.bytes + string_bytes t ls);
  end = layers_end s.end ls;
}

tally_totals : (t : List ℕ) (room : ℕ) (s : Tally) (ls : List LayerPlaces) → s.bytes ≤ room + 1 → tally t room s ls ≡ totals t room s ls
unfolding tally totals layers_end
tally_totals t room s [] h =
    let c : s.count ≡ s.count + 0 = omega arith in
    let a : s.strings ≡ s.strings + 0 = omega arith in
    let b : s.contents ≡ s.contents + 0 = omega arith in
    let g : s.segments ≡ s.segments + 0 = omega arith in
    let y : s.bytes ≡ capped room (s.bytes + 0) = omega arith in
    λ i. record { count = c i; strings = a i; contents = b i; segments = g i; bytes = y i; end = s.end }
tally_totals t room s (l ∷ ls) h =
    let c : s.count + 1 + length ls ≡ s.count + suc (length ls) = omega arith in
    let a : s.strings + l.string_count + sum (strings_in ls) ≡ s.strings + (l.string_count + sum (strings_in ls)) = omega arith in
    let b : s.contents + l.content_count + sum (contents_in ls) ≡ s.contents + (l.content_count + sum (contents_in ls)) = omega arith in
    let g : s.segments + l.segment_count + sum (segments_in ls) ≡ s.segments + (l.segment_count + sum (segments_in ls)) = omega arith in
    let y : capped room (capped room (s.bytes + sum (string_lengths t l)) + string_bytes t ls) ≡ capped room (s.bytes + (sum (string_lengths t l) + string_bytes t ls)) = omega arith in
    tally_totals t room (add_layer t room s l) ls (omega arith)
    ∙ (λ i. record { count = c i; strings = a i; contents = b i; segments = g i; bytes = y i; end = layers_end l.end_at ls })

module _ (t : List ℕ) (room : ℕ) where
  tallied_totals : tallied t room ≡ totals t room no_layers (places t).layers
  unfolding tallied
  tallied_totals = tally_totals t room no_layers (places t).layers (omega arith)

  pub tallied_bytes : (tallied t room).bytes ≤ room + 1
  unfolding totals
  tallied_bytes = rw tallied_totals (omega arith)

layers_near : (t : List ℕ) (n p : ℕ) → p ≤ length t + 36 → layers_end p (layers_from n t p) ≤ length t + 36
unfolding layers_end layers_from
layers_near t zero p h = h
layers_near t (suc n) p h = go (layers_near t n (layer_places t p).end_at) (eqb (byte_at t p) 2) refl
  where
    go : ((layer_places t p).end_at ≤ length t + 36 → layers_end (layer_places t p).end_at (layers_from n t (layer_places t p).end_at) ≤ length t + 36)
        → (x : Bool) → eqb (byte_at t p) 2 ≡ x → layers_end p (cond x (layer_places t p ∷ layers_from n t (layer_places t p).end_at) []) ≤ length t + 36
    go more true e = more (layer_near t p (two_inside t p (eqb-true (byte_at t p) 2 e)))
    go more false e = h

pub tallied_near : (t : List ℕ) (room : ℕ) → (tallied t room).end ≤ length t + 36
unfolding totals places
tallied_near t room = rw (tallied_totals t room) (layers_near t (length t) 9 (omega arith))

pub lists_near : (t : List ℕ) (at : ℕ) → at ≤ length t + 36 → (list_runs t at).end ≤ length t + 48
unfolding list_runs count_at node_codec pair_codec container_codec diagnostic_codec
lists_near t at h = diagnostics_end t at _ h refl _ refl _ refl _ refl

-- ---- the walk is the model's

some_layer : (ls : List LayerPlaces) → not (eqb (0 + length ls) 0) ≡ not (is_empty ls)
some_layer [] = refl
some_layer (l ∷ ls) = ap not (ne_eqb (0 + suc (length ls)) 0 (λ e. absurd (omega (arith, e))))

capped_eq : (room x y : ℕ) → eqb room (x + capped room (0 + y)) ≡ eqb room (x + y)
capped_eq room x y = by_bool (leb y room) (λ e. ap (λ (k : ℕ). eqb room (x + k)) (within (leb-true y room e))) (λ e. over (leb-false y room e))
  where
    within : y ≤ room → capped room (0 + y) ≡ y
    within h = omega arith

    over : room < y → eqb room (x + capped room (0 + y)) ≡ eqb room (x + y)
    over h = ne_eqb room (x + capped room (0 + y)) (λ e. absurd (omega (arith, e, h))) ∙ sym (ne_eqb room (x + y) (λ e. absurd (omega (arith, e, h))))

module _ (t d : List ℕ) (s : Tally) (l : ListRuns) (e : s ≡ tallied t (length d)) (f : l ≡ list_runs t s.end) where
  frame_is : frame_holds t s l.end (length d) ≡ holds t d
  unfolding frame_holds holds framed bytes_needed totals list_runs places node_codec pair_codec container_codec diagnostic_codec
  frame_is =
      rw (f, e, tallied_totals t (length d), some_layer (places t).layers, capped_eq (length d) (word_at t 1 + word_at t 5) (string_bytes t (places t).layers)) refl

  found_is : found_by t s l ≡ found t
  unfolding found totals list_runs places node_codec pair_codec container_codec diagnostic_codec
  found_is = rw (f, e, tallied_totals t (length d)) (
      let ls = layers_from (length t) t 9 in
      let c : 0 + length ls ≡ length ls = omega arith in
      let a : 0 + sum (strings_in ls) ≡ sum (strings_in ls) = omega arith in
      let b : 0 + sum (contents_in ls) ≡ sum (contents_in ls) = omega arith in
      let g : 0 + sum (segments_in ls) ≡ sum (segments_in ls) = omega arith in
      rw (c, a, b, g) refl)

  pub walk_found : (p : Places) → p ≡ found_by t s l → frame_holds t s l.end (length d) ≡ true → Some p ≡ places_of t d
  unfolding places_of
  walk_found p g h = rw (sym frame_is ∙ h) (ap (λ (x : Places). Some x) (g ∙ found_is))

  pub walk_none : frame_holds t s l.end (length d) ≡ false → None ≡ places_of t d
  unfolding places_of
  walk_none h = rw (sym frame_is ∙ h) refl

-- what the walk's parts may ask of each other
pub walk_near : (t : List ℕ) (room : ℕ) (s : Tally) → s ≡ tallied t room → s.end ≤ length t + 36
walk_near t room s e = rw e (tallied_near t room)

pub walk_bytes : (t : List ℕ) (room : ℕ) (s : Tally) → s ≡ tallied t room → s.bytes ≤ room + 1
walk_bytes t room s e = rw e (tallied_bytes t room)

pub walk_lists : (t : List ℕ) (room : ℕ) (s : Tally) (l : ListRuns) → s ≡ tallied t room → l ≡ list_runs t s.end → l.end ≤ length t + 48
walk_lists t room s l e f = rw f (lists_near t s.end (walk_near t room s e))
