-- Number 1 whole: the shapes of a tape's records where they stand are the shape of the book that `parse` reads.
use Rattle.std.specs.Prelude.{Some, ◌≡◌, ℕ, ◌+◌, Bool, true, false, ◌&&◌, List, [], ◌∷◌, drop}
use Rattle.std.proofs.Math.Path.{refl, ap}
use Rattle.std.proofs.Common.{sym, ◌∙◌}
use Rattle.std.proofs.Math.Bool.{cond}
use Rattle.std.proofs.Math.Option.{none, some}
use Rattle.model.specs.Lists.{all, sum}
use Rattle.model.specs.Bytes.{word_at}
use Rattle.model.specs.Tape.{LayerPlaces, places, records_at, content_codec, segment_codec, node_codec, pair_codec, diagnostic_codec}
use Rattle.model.specs.Tape.{content_shape, segment_shape, node_shape, pair_shape, diagnostic_shape, layer_shape, book_shape, string_lengths, layer_at, layers_at, book_at, if_shaped, parse}
use Rattle.facts.specs.Truth.{and_turn}
use Rattle.places.specs.declared.LayerRuns.{LayerRuns}
use Rattle.places.specs.declared.Places.{Places}
use Rattle.places.specs.Found.{layer_runs, found, places_of}
use Rattle.places.specs.Again.{Frame, frame, Parsed, places_parsed}
use Rattle.places.specs.Walked.{all_layers}

-- ---- definitions

-- Section 4. The shape of a layer, by its runs.
unfoldable pub runs_shape : List ℕ → LayerRuns → Bool
runs_shape t l =
    all content_shape (records_at content_codec t l.contents.at l.contents.count)
    && all segment_shape (records_at segment_codec t l.segments.at l.segments.count)

-- Section 4. The shapes of the lists behind the layers.
unfoldable pub lists_shape : List ℕ → Places → Bool
lists_shape t p =
    all node_shape (records_at node_codec t p.nodes.at p.nodes.count)
    && all pair_shape (records_at pair_codec t p.pairs.at p.pairs.count)
    && all diagnostic_shape (records_at diagnostic_codec t p.diagnostics.at p.diagnostics.count)

-- Number 1, of a tape whose frame holds.
unfoldable pub tape_shape : List ℕ → Places → Bool
tape_shape t p = all_layers (runs_shape t) t && lists_shape t p

-- ---- the shape of the book

-- no shape depends on the byte buffer
layers_shape_lem : (t : List ℕ) (ls : List LayerPlaces) (b : List ℕ) → all layer_shape (layers_at t ls b) ≡ all (λ (l : LayerPlaces). runs_shape t (layer_runs l)) ls
unfolding layers_at layer_at layer_shape runs_shape
layers_shape_lem t [] b = refl
layers_shape_lem t (l ∷ ls) b = ap (λ (x : Bool). runs_shape t (layer_runs l) && x) (layers_shape_lem t ls (drop (sum (string_lengths t l)) b))

book_shape_lem : (t d : List ℕ) → book_shape (book_at t (places t) d) ≡ tape_shape t (found t)
unfolding book_shape book_at tape_shape all_layers lists_shape found
book_shape_lem t d =
    let p = places t in
    and_turn (all layer_shape (layers_at t p.layers (drop (word_at t 1 + word_at t 5) d))) (all (λ (l : LayerPlaces). runs_shape t (layer_runs l)) p.layers)
    (all node_shape (records_at node_codec t p.nodes_at p.node_count))
    (all pair_shape (records_at pair_codec t p.pairs_at p.pair_count))
    (all diagnostic_shape (records_at diagnostic_codec t p.diagnostics_at p.diagnostic_count))
    (layers_shape_lem t p.layers (drop (word_at t 1 + word_at t 5) d))

-- ---- what the answer says, the frame holding

-- a book, and its places
pub record Laid (t d : List ℕ) (p : Places) : Type 0 where
  pub is : p ≡ found t
  pub framing : Frame t d
  pub book : parse t d ≡ some (book_at t (places t) d)

module _ (t d : List ℕ) {p : Places} (e : places_of t d ≡ Some p) where
  parsed : Parsed t d p
  parsed = places_parsed t d e

  book : parse t d ≡ cond (tape_shape t p) (some (book_at t (places t) d)) none
  unfolding if_shaped
  book =
      parsed.book ∙ ap (λ (b : Bool). cond b (some (book_at t (places t) d)) none) (book_shape_lem t d
      ∙ ap (tape_shape t) (sym parsed.is))

  module _ {r : Bool} (g : r ≡ tape_shape t p) where
    pub misshapen : r ≡ false → parse t d ≡ none
    misshapen h = rw (book, ← g, h) refl

    pub shaped_laid : r ≡ true → Laid t d p
    shaped_laid h = record { is = parsed.is; framing = frame t d parsed.holding; book = rw (book, ← g, h) refl }
