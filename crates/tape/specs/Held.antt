-- An opened book: what is known of it, and what follows for the code that reads it.
use Rattle.std.specs.Prelude.{◌≡◌, ℕ, ◌+◌, ◌*◌, ◌^◌, ◌≤◌, ◌<◌, List, length, take}
use Rattle.std.proofs.Math.Path.{refl, ap, ap₂}
use Rattle.std.proofs.Common.{arith}
use Rattle.model.specs.Limits.{max_text}
use Rattle.model.specs.Bytes.{word_at}
use Rattle.model.specs.Tape.{records_at, node_codec, pair_codec, diagnostic_codec, places, bytes_needed, book_at}
use Rattle.laws.specs.Checks.{limit_facts}
use Rattle.places.specs.declared.Places.{Places}
use Rattle.places.specs.Found.{found}
use Rattle.store.specs.declared.Store.{Store}
use Rattle.store.specs.Stored.{store_at, OfTape}
use Rattle.store.specs.Lengths.{book_lengths}
use Rattle.strings.specs.Starts.{Readable, some_layer, readable}
use Rattle.bounds.specs.Search.{InOrder}
use Rattle.tape.specs.Accepted.{Accepted, accepted_tape, accepted_places, accepted_order}
use Rattle.places.specs.Walked.{PlacesFit, fit_nodes, fit_pairs}

-- tape and bytes passed 1 to 7; these are their places and their store
pub record Held (t d : List ℕ) (p : Places) (st : Store) : Type 0 where
  pub accepted : Accepted t d
  pub is : p ≡ found t
  pub stored : st ≡ store_at t

module _ {t d : List ℕ} {p : Places} {st : Store} (r : Held t d p st) where
  pub held_places : PlacesFit t p
  held_places = accepted_places r.accepted r.is

  -- ---- the store

  pub held_tape : OfTape t st
  held_tape = accepted_tape r.accepted r.is r.stored

  pub held_layers : (0 < st.layers) × (st.layers ≤ 32)
  held_layers = (some_layer t d r.accepted.framing st r.stored, held_tape.few)

  pub held_readable : length d < 2 ^ 63 → Readable t st (length d)
  held_readable h = readable t d r.accepted.framing st r.stored held_layers.1 h

  -- ---- both texts

  pub held_texts : p.text.0 + p.normalized.0 ≡ word_at t 1 + word_at t 5
  unfolding found
  held_texts = ap₂ (λ (x y : ℕ). x + y) (ap (λ (x : Places). x.text.0) r.is) (ap (λ (x : Places). x.normalized.0) r.is)

  pub held_text : take p.text.0 d ≡ (book_at t (places t) d).sanitized
  unfolding book_at found
  held_text = ap (λ (n : ℕ). take n d) (ap (λ (x : Places). x.text.0) r.is)

  pub held_length : length (book_at t (places t) d).sanitized ≡ p.text.0
  held_length = (book_lengths t d p r.accepted.framing r.is).text

  pub held_short : p.text.0 ≤ max_text
  held_short = let l = limit_facts (book_at t (places t) d) r.accepted.limits in omega (arith, l.sanitized, held_length)

  pub held_texts_inside : p.text.0 + p.normalized.0 ≤ length d
  unfolding bytes_needed
  held_texts_inside = omega (arith, held_texts, r.accepted.framing.bytes)

  -- ---- the lists

  pub held_nodes : records_at node_codec t p.nodes.at p.nodes.count ≡ (book_at t (places t) d).source_nodes
  unfolding book_at found
  held_nodes = rw r.is refl

  pub held_pairs : records_at pair_codec t p.pairs.at p.pairs.count ≡ (book_at t (places t) d).pairs
  unfolding book_at found
  held_pairs = rw r.is refl

  pub held_diagnostics : records_at diagnostic_codec t p.diagnostics.at p.diagnostics.count ≡ (book_at t (places t) d).diagnostics
  unfolding book_at found
  held_diagnostics = rw r.is refl

  pub held_runs : (p.nodes.at + 49 * p.nodes.count ≤ length t) × (p.pairs.at + 18 * p.pairs.count ≤ length t)
  held_runs = (fit_nodes held_places, fit_pairs held_places)

  pub held_in_order : InOrder (records_at node_codec t p.nodes.at p.nodes.count)
  held_in_order = accepted_order r.accepted r.is
