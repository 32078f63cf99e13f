-- Demand 3, stated: two corrections with separate regions, merged in both orders. Section 7, its second paragraph. It is a
-- statement over `merge` on tapes; nothing is proved here.
use Rattle.std.specs.Prelude.{◌≡◌, ℕ, ◌+◌, ◌≤◌, ◌<◌, min, true, List}
use Rattle.std.proofs.Math.Option.{Option, map}
use Rattle.model.specs.Lists.{sum}
use Rattle.model.specs.Limits.{max_level}
use Rattle.model.specs.Bytes.{AreBytes}
use Rattle.model.specs.Offset.{Span, max_u32}
use Rattle.model.specs.Types.{PairLink, ContainerPair, Diagnostic, LexOutput}
use Rattle.model.specs.Refusal.{Checked, Checked.accepted}
use Rattle.model.specs.Store.{store_of, string_counts, content_counts, segment_counts, range_ok}
use Rattle.model.specs.WellFormed.{check_book}
use Rattle.model.specs.Tree.{Contents, Segments, show_body, show_contents, show_segments, ShownNode, shown_nodes}
use Rattle.model.specs.Region.{Edit, edit_of, behind_edit, chosen_region}
use Rattle.model.specs.Merge.{Stored, stored_of, Room, IncrementalOutput, merge}
use Rattle.model.specs.Lookup.{lookup_str, lookup_contents, lookup_segments}

-- ---- what a book shows

-- Section 7. Equal books: both texts byte for byte; nodes, pairs, containers, diagnostics as lists in tape order, field by
-- field. An id stands as its string (a missing one as missing), a range as the list of items it names, put likewise.
pub record Shown : Type 0 where
  pub sanitized : List ℕ
  pub normalized : List ℕ
  pub source_nodes : List ShownNode
  pub pairs : List PairLink
  pub container_pairs : List ContainerPair
  pub diagnostics : List Diagnostic

unfoldable pub shown : LexOutput → Shown
shown b = record {
  sanitized = b.sanitized;
  normalized = b.normalized;
  source_nodes = shown_nodes b;
  pairs = b.pairs;
  container_pairs = b.container_pairs;
  diagnostics = b.diagnostics;
}

-- Section 7. An id or range shows that string or list. One that the book does not have shows none, so that a reference that
-- vanished is not an empty one; the string of an id is `lookup_str`.
unfoldable pub shown_contents : LexOutput → ℕ → ℕ → Option Contents
shown_contents b start len =
    let st = store_of b.layers in
    map (show_contents (λ inner. show_body max_level st inner) st) (lookup_contents b start len)

unfoldable pub shown_segments : LexOutput → ℕ → ℕ → Option Segments
shown_segments b start len =
    let st = store_of b.layers in
    map (show_segments (λ inner. show_body max_level st inner)) (lookup_segments b start len)

-- Section 7. Meant is each string number below the first book's count and each range of its contents or segments under
-- section 3, used by a node or not: it shows in the later book what it showed in the first. Wish 6: this runs from one flattening to
-- the next. A flat book is an accepted book (`Flattened`), so `Demand3` holds from it on; its ids are new ones, and references given out before
-- end with it (`ids_end` in Traps).
pub record KeptReferences (first later : LexOutput) : Type 0 where
  pub strings : (id : ℕ) → id < sum (string_counts first.layers) → lookup_str later id ≡ lookup_str first id
  pub contents : (start len : ℕ) → range_ok (content_counts first.layers) start len ≡ true → shown_contents later start len ≡ shown_contents first start len
  pub segments : (start len : ℕ) → range_ok (segment_counts first.layers) start len ≡ true → shown_segments later start len ≡ shown_segments first start len

-- ---- the two orders

-- an edit and its reading, which is the same in both orders
pub record Correction : Type 0 where
  pub edit : Edit
  pub reading : Stored

abbrev pub correction_of : ℕ → ℕ → List ℕ → List ℕ → List ℕ → Correction
correction_of start end replacement tape bytes = record { edit = edit_of start end replacement; reading = stored_of tape bytes }

-- the merge of a correction, in buffers of that room
abbrev pub merge_of : Stored → Correction → Room → Checked IncrementalOutput
merge_of book c room = merge book c.edit c.reading room

-- a tape and a buffer of bytes, as every slice is
pub record StoredBytes (s : Stored) : Type 0 where
  pub tape : AreBytes s.tape
  pub bytes : AreBytes s.bytes

-- an edit that lies behind another, moved by the other's change in length
unfoldable pub moved_behind : Edit → Edit → Edit
moved_behind other e = record {
  start = behind_edit other e.start;
  end = behind_edit other e.end;
  replacement = e.replacement;
}

-- a region that lies behind another edit, moved likewise
unfoldable pub region_behind : Edit → Span → Span
region_behind other r = record { start = behind_edit other r.start; end = behind_edit other r.end }

-- Section 7. Both regions are section 6's on the accepted book, and separate: the earlier-lying one's end is at or before the
-- later-lying one's start. Where both are empty at one place, either may be called the later.
pub record Separate (book : LexOutput) (earlier later : Correction) : Type 0 where
  pub earlier_region : Span
  pub later_region : Span
  pub earlier_chosen : chosen_region book earlier.edit ≡ accepted earlier_region
  pub later_chosen : chosen_region book later.edit ≡ accepted later_region
  pub apart : earlier_region.end ≤ later_region.start

-- The four merges, accepted, in any buffers: the earlier-lying first and the later-lying second, moved; and the other way round.
pub record BothOrders (stored : Stored) (earlier later : Correction) : Type 0 where
  pub room₁ : Room
  pub room₂ : Room
  pub room₃ : Room
  pub room₄ : Room
  pub earlier_first : IncrementalOutput
  pub later_second : IncrementalOutput
  pub later_first : IncrementalOutput
  pub earlier_second : IncrementalOutput
  pub merge₁ : merge stored earlier.edit earlier.reading room₁ ≡ accepted earlier_first
  pub merge₂ : merge earlier_first.output (moved_behind earlier.edit later.edit) later.reading room₂ ≡ accepted later_second
  pub merge₃ : merge stored later.edit later.reading room₃ ≡ accepted later_first
  pub merge₄ : merge later_first.output earlier.edit earlier.reading room₄ ≡ accepted earlier_second

-- What must hold of them, with the books that the two final tapes hold.
pub record Commutes (book : LexOutput) (stored : Stored) (earlier later : Correction) (orders : BothOrders stored earlier later) : Type 0 where
  pub final₁ : LexOutput
  pub final₂ : LexOutput
  pub holds₁ : check_book orders.later_second.output.tape orders.later_second.output.bytes ≡ accepted final₁
  pub holds₂ : check_book orders.earlier_second.output.tape orders.earlier_second.output.bytes ≡ accepted final₂
  -- Same passage: the earlier-lying edit's region has the same start and end, merged first or second; the later-lying edit's,
  -- merged second, has those it has on the first book plus the other's change in length.
  pub earlier_passage : orders.earlier_second.region ≡ orders.earlier_first.region
  pub later_passage : orders.later_second.region ≡ region_behind earlier.edit orders.later_first.region
  pub equal_books : shown final₁ ≡ shown final₂
  -- An order's reread total is the sum of its two merges' reread.
  pub equal_totals : orders.earlier_first.reparsed_nodes + orders.later_second.reparsed_nodes ≡ orders.later_first.reparsed_nodes + orders.earlier_second.reparsed_nodes
  pub kept₁ : KeptReferences book final₁
  pub kept₂ : KeptReferences book final₂

-- Demand 3. For every accepted book, every two corrections of it with separate regions and every reading for each, if all four
-- merges are accepted.
unfoldable pub Demand3 : Type 0
Demand3 =
    (stored : Stored) (book : LexOutput) → StoredBytes stored → check_book stored.tape stored.bytes ≡ accepted book
    → (earlier later : Correction) → StoredBytes earlier.reading → StoredBytes later.reading → Separate book earlier later
    → (orders : BothOrders stored earlier later)
    → Commutes book stored earlier later orders

-- ---- as a caller asks for it

-- Where an offset behind an edit stands in the new text, cut at the largest u32. Nothing is cut where both edits are accepted on one book.
unfoldable pub cut_behind : Edit → ℕ → ℕ
cut_behind e o = min (behind_edit e o) max_u32

-- a correction that lies behind another, its offsets cut
unfoldable pub cut_moved : Edit → Correction → Correction
cut_moved other c = record {
  edit = edit_of (cut_behind other c.edit.start) (cut_behind other c.edit.end) c.edit.replacement;
  reading = c.reading;
}
