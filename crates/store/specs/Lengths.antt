-- How long the texts and lists of a tape's book are, by the numbers that `places_of` found: what number 3 is tested on.
use Rattle.std.specs.Prelude.{◌≡◌, refl, ℕ, suc, ◌+◌, List, [], ◌∷◌, length, drop}
use Rattle.std.proofs.Common.{ap, arith, length-drop, length-take-le}
use Rattle.model.specs.Lists.{sum}
use Rattle.model.specs.Bytes.{word_at}
use Rattle.model.specs.Types.{LexOutput}
use Rattle.model.specs.Store.{string_counts, content_counts, segment_counts}
use Rattle.model.specs.Tape.{LayerPlaces, places, string_lengths, layers_at, bytes_needed, book_at, node_codec, pair_codec, container_codec, diagnostic_codec}
use Rattle.laws.specs.Records.{run_length}
use Rattle.places.specs.declared.Places.{Places}
use Rattle.places.specs.Found.{found}
use Rattle.places.specs.Again.{Frame}
use Rattle.store.specs.Standing.{string_counts_lem, content_counts_lem, segment_counts_lem}

pub record BookLengths (b : LexOutput) (p : Places) : Type 0 where
  pub text : length b.sanitized ≡ p.text.0
  pub normalized : length b.normalized ≡ p.normalized.0
  pub layers : length b.layers ≡ p.layers
  pub strings : sum (string_counts b.layers) ≡ p.strings
  pub contents : sum (content_counts b.layers) ≡ p.contents
  pub segments : sum (segment_counts b.layers) ≡ p.segments
  pub nodes : length b.source_nodes ≡ p.nodes.count
  pub pairs : length b.pairs ≡ p.pairs.count
  pub containers : length b.container_pairs ≡ p.containers.count
  pub diagnostics : length b.diagnostics ≡ p.diagnostics.count

length_layers : (t : List ℕ) (ls : List LayerPlaces) (b : List ℕ) → length (layers_at t ls b) ≡ length ls
unfolding layers_at
length_layers t [] b = refl
length_layers t (l ∷ ls) b = ap suc (length_layers t ls (drop (sum (string_lengths t l)) b))

pub book_lengths : (t d : List ℕ) (p : Places) → Frame t d → p ≡ found t → BookLengths (book_at t (places t) d) p
unfolding book_at bytes_needed found
book_lengths t d p f e =
    let q = places t in
    let rest = drop (word_at t 1 + word_at t 5) d in
    let left = length-drop (word_at t 1) d in
    rw e (record {
      text = length-take-le (word_at t 1) d (omega (arith, f.bytes));
      normalized = length-take-le (word_at t 5) (drop (word_at t 1) d) (omega (arith, f.bytes, left));
      layers = length_layers t q.layers rest;
      strings = ap sum (string_counts_lem t q.layers rest);
      contents = ap sum (content_counts_lem t q.layers rest);
      segments = ap sum (segment_counts_lem t q.layers rest);
      nodes = run_length node_codec t q.nodes_at q.node_count;
      pairs = run_length pair_codec t q.pairs_at q.pair_count;
      containers = run_length container_codec t q.containers_at q.container_count;
      diagnostics = run_length diagnostic_codec t q.diagnostics_at q.diagnostic_count;
    })
