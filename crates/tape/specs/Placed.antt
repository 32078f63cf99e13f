-- Numbers 6 and 7 of a tape's book: what the code tests, by the places that were found, and that it is the model's.
use Rattle.std.specs.Prelude.{Option, Some, None, ◌≡◌, ℕ, ◌+◌, ◌-◌, ◌≤◌, ◌<◌, Bool, true, false, cond, ◌&&◌, List, length, eqb}
use Rattle.std.proofs.Math.Path.{refl, sym}
use Rattle.std.proofs.Common.{ap, ◌∙◌, arith, eqb-true, eq-eqb, ne_eqb}
use Rattle.std.proofs.Math.Bool.{and-false}
use Rattle.model.specs.Lists.{all}
use Rattle.model.specs.Types.{LexOutput}
use Rattle.model.specs.Tape.{places, records_at, book_at, node_codec, pair_codec, container_codec, diagnostic_codec}
use Rattle.model.specs.WellFormed.{pair_ok, container_ok, diagnostic_ok, places_ok, images, spans, normalized_length_ok}
use Rattle.facts.specs.Truth.{and_turn, by_bool}
use Rattle.places.specs.declared.Places.{Places}
use Rattle.places.specs.Found.{found}
use Rattle.places.specs.Again.{Frame}
pub use Rattle.places.specs.Walked.{PlacesFit, places_fit, fit_nodes, fit_pairs, fit_containers, fit_diagnostics}
use Rattle.store.specs.Lengths.{book_lengths}
use Rattle.bounds.specs.Walk.{nodes_in_place, sums_if_placed}
use Rattle.bounds.specs.declared.Sums.{Sums}

-- ---- definitions

-- Number 6, then number 7; 0 for neither.
unfoldable pub places_number : LexOutput → ℕ
places_number b = cond (places_ok b) (cond (normalized_length_ok b) 0 7) 6

-- Number 7 by lengths and sums: normalized length = text length + all drift, the spans on the other side.
unfoldable pub lengths_agree : ℕ → ℕ → ℕ → ℕ → Bool
lengths_agree text normalized images spans = eqb (normalized + spans) (text + images)

-- what the walk over the nodes tells
unfoldable pub drift_number : ℕ → ℕ → Option Sums → ℕ
drift_number text normalized None = 6
drift_number text normalized (Some s) = cond (lengths_agree text normalized s.images s.spans) 0 7

-- Number 6 of pairs, containers and diagnostics.
unfoldable pub lists_placed : List ℕ → Places → Bool
lists_placed t p =
    all (pair_ok p.text.0) (records_at pair_codec t p.pairs.at p.pairs.count)
    && all (container_ok p.normalized.0) (records_at container_codec t p.containers.at p.containers.count)
    && all (diagnostic_ok p.text.0) (records_at diagnostic_codec t p.diagnostics.at p.diagnostics.count)

-- ---- number 7 without a sum that could be too large

same_test : (a b c d : ℕ) → (a ≡ b → c ≡ d) → (c ≡ d → a ≡ b) → eqb a b ≡ eqb c d
same_test a b c d f g = by_bool (eqb c d) (λ e. eq-eqb a b (g (eqb-true c d e)) ∙ sym e) (λ e. other e)
  where
    other : eqb c d ≡ false → eqb a b ≡ eqb c d
    other e = by_bool (eqb a b) (λ h. h ∙ sym (eq-eqb c d (f (eqb-true a b h)))) (λ h. h ∙ sym e)

module _ (text normalized images spans : ℕ) where
  pub shorter_no : normalized < text → spans < images → false ≡ lengths_agree text normalized images spans
  unfolding lengths_agree
  shorter_no h k = sym (ne_eqb (normalized + spans) (text + images) (λ e. absurd (omega (arith, e, h, k))))

  pub shorter : normalized < text → images ≤ spans → eqb (spans - images) (text - normalized) ≡ lengths_agree text normalized images spans
  unfolding lengths_agree
  shorter h k = same_test (spans - images) (text - normalized) (normalized + spans) (text + images) (λ e. omega (arith, e, h, k)) (λ e. omega (arith, e, h, k))

  pub longer_no : text ≤ normalized → images < spans → false ≡ lengths_agree text normalized images spans
  unfolding lengths_agree
  longer_no h k = sym (ne_eqb (normalized + spans) (text + images) (λ e. absurd (omega (arith, e, h, k))))

  pub longer : text ≤ normalized → spans ≤ images → eqb (images - spans) (normalized - text) ≡ lengths_agree text normalized images spans
  unfolding lengths_agree
  longer h k = same_test (images - spans) (normalized - text) (normalized + spans) (text + images) (λ e. omega (arith, e, h, k)) (λ e. omega (arith, e, h, k))

-- ---- the answers of the code

module _ (t : List ℕ) (p : Places) {x : Bool} (e : x ≡ all (pair_ok p.text.0) (records_at pair_codec t p.pairs.at p.pairs.count)) where
  pub pairs_bad : x ≡ false → false ≡ lists_placed t p
  unfolding lists_placed
  pairs_bad f = rw (← e, f) refl

  module _ {y : Bool} (g : y ≡ all (container_ok p.normalized.0) (records_at container_codec t p.containers.at p.containers.count)) where
    pub containers_bad : y ≡ false → false ≡ lists_placed t p
    unfolding lists_placed
    containers_bad h = rw (← g, h, and-false) refl

    pub lists_end_lem : x ≡ true → y ≡ true → {z : Bool} → z ≡ all (diagnostic_ok p.text.0) (records_at diagnostic_codec t p.diagnostics.at p.diagnostics.count)
        → z ≡ lists_placed t p
    unfolding lists_placed
    lists_end_lem f h k = rw (← e, f, ← g, h) k

-- ---- that it is numbers 6 and 7 of the book

-- Number 6 of a book's pairs, containers and diagnostics, its texts being so long
unfoldable lists_ok : ℕ → ℕ → LexOutput → Bool
lists_ok text normalized b =
    all (pair_ok text) b.pairs && all (container_ok normalized) b.container_pairs && all (diagnostic_ok text) b.diagnostics

module _ (b : LexOutput) where
  places_split : places_ok b ≡ (nodes_in_place (length b.sanitized) b.source_nodes && lists_ok (length b.sanitized) (length b.normalized) b)
  unfolding places_ok lists_ok
  places_split =
      and_turn (nodes_in_place (length b.sanitized) b.source_nodes) _ (all (pair_ok (length b.sanitized)) b.pairs)
      (all (container_ok (length b.normalized)) b.container_pairs) (all (diagnostic_ok (length b.sanitized)) b.diagnostics) refl

  lists_six : lists_ok (length b.sanitized) (length b.normalized) b ≡ false → 6 ≡ places_number b
  unfolding places_number
  lists_six f = rw (places_split, f, and-false) refl

  lists_drift : lists_ok (length b.sanitized) (length b.normalized) b ≡ true
      → drift_number (length b.sanitized) (length b.normalized) (sums_if_placed (length b.sanitized) b.source_nodes) ≡ places_number b
  unfolding places_number drift_number sums_if_placed lengths_agree normalized_length_ok
  lists_drift f =
      by_bool (nodes_in_place (length b.sanitized) b.source_nodes) (λ n. rw (places_split, f, n) refl) (λ n. rw (places_split, f, n) refl)

module _ (t d : List ℕ) {p : Places} (f : Frame t d) (e : p ≡ found t) where
  lists_here : lists_placed t p ≡ lists_ok p.text.0 p.normalized.0 (book_at t (places t) d)
  unfolding lists_placed lists_ok found book_at
  lists_here = rw e refl

  lists_are : lists_placed t p ≡ lists_ok (length (book_at t (places t) d).sanitized) (length (book_at t (places t) d).normalized) (book_at t (places t) d)
  lists_are = let l = book_lengths t d p f e in rw (l.text, l.normalized) lists_here

  nodes_are : records_at node_codec t p.nodes.at p.nodes.count ≡ (book_at t (places t) d).source_nodes
  unfolding found book_at
  nodes_are = rw e refl

  pub places_six : {x : Bool} → x ≡ lists_placed t p → x ≡ false → 6 ≡ places_number (book_at t (places t) d)
  places_six g h = lists_six (book_at t (places t) d) (sym lists_are ∙ sym g ∙ h)

  pub places_drift : {x : Bool} {r : ℕ} → x ≡ lists_placed t p → x ≡ true → (k : Option Sums) → k ≡ sums_if_placed p.text.0 (records_at node_codec t p.nodes.at p.nodes.count)
      → r ≡ drift_number p.text.0 p.normalized.0 k → r ≡ places_number (book_at t (places t) d)
  places_drift g h k m q =
      let l = book_lengths t d p f e in
      let a = lists_drift (book_at t (places t) d) (sym lists_are ∙ sym g ∙ h) in
      let n : k ≡ sums_if_placed p.text.0 (book_at t (places t) d).source_nodes = m ∙ ap (sums_if_placed p.text.0) nodes_are in
      q ∙ ap (drift_number p.text.0 p.normalized.0) n ∙ (rw (l.text, l.normalized) at a)
