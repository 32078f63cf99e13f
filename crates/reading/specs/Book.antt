-- Numbers 13, 14 and 16 of books that a tape and its bytes hold: the code's answers by records and parts of bytes are the model's.
use Rattle.std.specs.Prelude.{◌≡◌, ℕ, Bool, List, take}
use Rattle.std.proofs.Math.Path.{refl}
use Rattle.std.proofs.Common.{ap, ◌∙◌}
use Rattle.model.specs.Bytes.{part}
use Rattle.model.specs.Offset.{Span}
use Rattle.model.specs.Types.{SourceNode, Diagnostic, RegionOutput}
use Rattle.model.specs.Tape.{records_at, node_codec, diagnostic_codec, places, book_at}
use Rattle.model.specs.Region.{Edit}
use Rattle.model.specs.Merge.{balanced_nodes, normalized_offset, window_of, cuts_ok}
use Rattle.places.specs.declared.Places.{Places}
use Rattle.places.specs.Found.{found}
use Rattle.passage.specs.Window.{ends_on_boundaries, cuts_window}

module _ (t d : List ℕ) {p : Places} (e : p ≡ found t) where
  pub text_found : take p.text.0 d ≡ (book_at t (places t) d).sanitized
  unfolding book_at found
  text_found = rw e refl

  pub normalized_found : part d p.text.0 p.normalized.0 ≡ (book_at t (places t) d).normalized
  unfolding book_at found
  normalized_found = rw e refl

  nodes_found : records_at node_codec t p.nodes.at p.nodes.count ≡ (book_at t (places t) d).source_nodes
  unfolding book_at found
  nodes_found = rw e refl

  diagnostics_found : records_at diagnostic_codec t p.diagnostics.at p.diagnostics.count ≡ (book_at t (places t) d).diagnostics
  unfolding book_at found
  diagnostics_found = rw e refl

  -- Number 13.
  pub balanced_book : {x : Bool} → x ≡ balanced_nodes (records_at node_codec t p.nodes.at p.nodes.count) → x ≡ balanced_nodes (book_at t (places t) d).source_nodes
  balanced_book q = q ∙ ap balanced_nodes nodes_found

  -- Number 14, what is asked of the reading's diagnostics and of the old book's.
  pub diagnostics_book : (f : List Diagnostic → Bool) {x : Bool} → x ≡ f (records_at diagnostic_codec t p.diagnostics.at p.diagnostics.count)
      → x ≡ f (book_at t (places t) d).diagnostics
  diagnostics_book f q = q ∙ ap f diagnostics_found

  pub offset_book : (o : ℕ) {x : ℕ} → x ≡ normalized_offset (records_at node_codec t p.nodes.at p.nodes.count) o → x ≡ normalized_offset (book_at t (places t) d).source_nodes o
  offset_book o q = q ∙ ap (λ (ns : List SourceNode). normalized_offset ns o) nodes_found

  -- Number 16.
  pub cuts_book : (edit : Edit) (reading : RegionOutput) (r : Span) {start end : ℕ} → start ≡ normalized_offset (records_at node_codec t p.nodes.at p.nodes.count) r.start
      → end ≡ normalized_offset (records_at node_codec t p.nodes.at p.nodes.count) r.end → {text : List ℕ} → text ≡ (book_at t (places t) d).normalized
      → {x : Bool} → x ≡ ends_on_boundaries text start end → x ≡ cuts_ok (book_at t (places t) d) (window_of (book_at t (places t) d) edit reading r)
  unfolding window_of
  cuts_book edit reading r f g h q =
      let old = book_at t (places t) d in
      q ∙ rw (offset_book r.start f, offset_book r.end g, h) (cuts_window old (window_of old edit reading r))
