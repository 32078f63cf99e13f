-- What is promised of merges, clause by clause, as a reader asks for it: a merge's result is accepted again; what it keeps it keeps once
-- (wish 5); what a flattening leaves as it was (wish 6); and what demand 3 says of four accepted merges. The edits in must-fail/ ask for more.
use Rattle.std.specs.Prelude.{◌≡◌, ℕ, ◌+◌, ◌<◌, []}
use Rattle.std.proofs.Common.{sym, ◌∙◌}
use Rattle.std.proofs.Math.Path.{ap}
use Rattle.model.specs.Lists.{sum}
use Rattle.model.specs.Types.{LexOutput}
use Rattle.model.specs.Refusal.{Checked.accepted}
use Rattle.model.specs.Store.{string_counts}
use Rattle.model.specs.WellFormed.{check_book}
use Rattle.model.specs.Tree.{shown_nodes}
use Rattle.model.specs.Region.{Edit, balanced_region}
use Rattle.model.specs.Merge.{Stored, Room, IncrementalOutput, node_located, diagnostic_located, merge, Fitted, fitted}
use Rattle.model.specs.Once.{on_both_sides, KeptOnce, CountedOnce}
use Rattle.model.specs.Lookup.{lookup_str}
use Rattle.model.specs.Demand3.{Shown, shown, Correction, StoredBytes, region_behind, Separate, BothOrders, Commutes, Demand3}
use Rattle.model.specs.Flatten.{flatten_book, Flat, Flattened}
use Rattle.laws.specs.Checks.{bind_accepted, checked_book, checked_reading, merge_accepted, merged_of}
use Rattle.laws.specs.ReadFits.{read_fits_lem}
use Rattle.laws.specs.Estimate.{finished, merge_fitted}
use Rattle.commute.specs.Step.{step_of}
use Rattle.commute.specs.Book.{output_again}
use Rattle.commute.proofs.Demand3.{demand3}
use Rattle.commute.proofs.Once.{counted_once}
use Rattle.commute.proofs.Flattened.{flattened}

-- The output of an accepted merge is accepted as a book.
pub merged_again : (s : Stored) (e : Edit) (rs : Stored) (room : Room) (m : IncrementalOutput) → StoredBytes s → StoredBytes rs → merge s e rs room ≡ accepted m
    → (b : LexOutput) × (check_book m.output.tape m.output.bytes ≡ accepted b)
merged_again s e rs room m hs hr q =
    let a = merge_accepted s e rs room m q in
    let fb = read_fits_lem s.tape hs.tape s.bytes a.old (checked_book s.tape s.bytes a.old a.book).0 in
    let fr = read_fits_lem rs.tape hr.tape rs.bytes a.reading (checked_reading rs.tape rs.bytes a.reading a.read).0 in
    (merged_of a.old e a.reading (balanced_region a.old e), output_again (step_of s a.old e rs a.reading room m fb fr a.book a.read q))

-- Wish 5. An accepted merge has passed 1 to 17, so that nothing of its old book is kept twice.
pub merged_once : (s : Stored) (e : Edit) (rs : Stored) (room : Room) (m : IncrementalOutput) → merge s e rs room ≡ accepted m
    → (f : Fitted) × (fitted s e rs ≡ accepted f) × KeptOnce f.old f.window
unfolding CountedOnce
merged_once s e rs room m q = let f = bind_accepted (fitted s e rs) (finished e room) m (sym (merge_fitted s e rs room) ∙ q) in (f.0, f.1, counted_once s e rs f.0 f.1)

module _ (s : Stored) (e : Edit) (rs : Stored) (f : Fitted) (p : fitted s e rs ≡ accepted f) where
  once : KeptOnce f.old f.window
  unfolding CountedOnce
  once = counted_once s e rs f p

  pub nodes_once : on_both_sides node_located f.window f.old.source_nodes ≡ []
  nodes_once = once.source_nodes

  pub diagnostics_once : on_both_sides diagnostic_located f.window f.old.diagnostics ≡ []
  diagnostics_once = once.diagnostics

-- ---- wish 6

module _ (stored : Stored) (book : LexOutput) (bytes : StoredBytes stored) (checked : check_book stored.tape stored.bytes ≡ accepted book)
    (room : Room) (made : Stored) (q : flatten_book stored room ≡ accepted made) where
  pub made_flat : Flat book made
  unfolding Flattened
  made_flat = flattened stored book bytes checked room made q

  pub flat_nodes : shown_nodes made_flat.flat ≡ shown_nodes book
  unfolding shown
  flat_nodes = ap (λ (s : Shown). s.source_nodes) made_flat.equal_books

  pub flat_diagnostics : made_flat.flat.diagnostics ≡ book.diagnostics
  unfolding shown
  flat_diagnostics = ap (λ (s : Shown). s.diagnostics) made_flat.equal_books

-- ---- demand 3

module _ (stored : Stored) (book : LexOutput) (bytes : StoredBytes stored) (checked : check_book stored.tape stored.bytes ≡ accepted book)
    (earlier later : Correction) (earlierBytes : StoredBytes earlier.reading) (laterBytes : StoredBytes later.reading)
    (separate : Separate book earlier later) (orders : BothOrders stored earlier later) where
  pub commutes : Commutes book stored earlier later orders
  unfolding Demand3
  commutes = demand3 stored book bytes checked earlier later earlierBytes laterBytes separate orders

  -- Same passage.
  pub earlier_region_again : orders.earlier_second.region ≡ orders.earlier_first.region
  earlier_region_again = commutes.earlier_passage

  pub later_region_moved : orders.later_second.region ≡ region_behind earlier.edit orders.later_first.region
  later_region_moved = commutes.later_passage

  -- Equal books: nodes with strings in place of ids, lists in tape order.
  pub equal_texts : commutes.final₁.sanitized ≡ commutes.final₂.sanitized
  unfolding shown
  equal_texts = ap (λ (s : Shown). s.sanitized) commutes.equal_books

  pub equal_nodes : shown_nodes commutes.final₁ ≡ shown_nodes commutes.final₂
  unfolding shown
  equal_nodes = ap (λ (s : Shown). s.source_nodes) commutes.equal_books

  pub equal_diagnostics : commutes.final₁.diagnostics ≡ commutes.final₂.diagnostics
  unfolding shown
  equal_diagnostics = ap (λ (s : Shown). s.diagnostics) commutes.equal_books

  -- Equal totals.
  pub equal_totals_lem : orders.earlier_first.reparsed_nodes + orders.later_second.reparsed_nodes ≡ orders.later_first.reparsed_nodes + orders.earlier_second.reparsed_nodes
  equal_totals_lem = commutes.equal_totals

  -- Kept references: a string number of the first book shows the same in both final books.
  pub kept_string : (id : ℕ) → id < sum (string_counts book.layers) → lookup_str commutes.final₁ id ≡ lookup_str commutes.final₂ id
  kept_string id h = commutes.kept₁.strings id h ∙ sym (commutes.kept₂.strings id h)
