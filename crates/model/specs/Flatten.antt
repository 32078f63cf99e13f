-- Wish 6: flattening. A book of 32 layers refuses every further reading with nodes, with 17; a flat book has one layer. What an accepted
-- flattening gives is a statement; the proof is `flattened` in commute/proofs/Flattened.antt.
use Rattle.std.specs.Prelude.{◌≡◌, not, List, [], ◌∷◌, length}
use Rattle.model.specs.Types.{SourceNode, LexOutput}
use Rattle.model.specs.Refusal.{Checked, Checked.accepted, ◌>>=◌, refuse◌if◌}
use Rattle.model.specs.WellFormed.{check_book}
use Rattle.model.specs.Tree.{ShownNode}
use Rattle.model.specs.Graft.{layered, layer_of, With, graft_node_refs}
use Rattle.model.specs.Merge.{Stored, Room, stored_book, result_ok}
use Rattle.model.specs.Demand3.{Shown, shown, StoredBytes}

-- Wish 6. The nodes' trees are grafted in order into one fresh layer.
unfoldable pub flat_graft : List ShownNode → With (List SourceNode)
flat_graft ns = graft_node_refs ns (layered [])

-- Wish 6. The book of one layer that shows what is given. It is made of that alone, so no old id and nothing unreachable is in it. Texts and
-- lists stand as they stood; diagnostics are not sorted anew. A book without nodes keeps one empty layer.
unfoldable pub flat_book : Shown → LexOutput
flat_book s =
    let g = flat_graft s.source_nodes in
    record {
      sanitized = s.sanitized;
      normalized = s.normalized;
      layers = layer_of g.1 ∷ [];
      source_nodes = g.0;
      pairs = s.pairs;
      container_pairs = s.container_pairs;
      diagnostics = s.diagnostics;
    }

-- Number 18, as of a merged book; then the flat book.
unfoldable pub flat_checked : Shown → Room → Checked Stored
flat_checked s room =
    let new = stored_book (flat_book s) in
    do
      _ ← refuse 18 if not (result_ok room (flat_graft s.source_nodes) (flat_book s) new)
      accepted new

-- Wish 6. `flatten_book`: refused by 1 to 7 and 18 under their old conditions.
unfoldable pub flatten_book : Stored → Room → Checked Stored
flatten_book stored room = do
  b ← check_book stored.tape stored.bytes
  flat_checked (shown b) room

-- Wish 6. What an accepted flattening makes of a book.
pub record Flat (book : LexOutput) (made : Stored) : Type 0 where
  pub flat : LexOutput
  pub holds : check_book made.tape made.bytes ≡ accepted flat
  pub one_layer : length flat.layers ≡ 1
  -- Texts, spans, lists and trees are equal before and after.
  pub equal_books : shown flat ≡ shown book
  -- Nothing unreachable is kept: the flat book hangs on what is shown alone.
  pub only_shown : flat ≡ flat_book (shown book)
  -- A book without nodes keeps one empty layer.
  pub no_nodes : book.source_nodes ≡ [] → flat.layers ≡ (record { strings = []; contents = []; segments = [] } ∷ [])

-- Wish 6. Of every accepted book, in buffers of any room.
unfoldable pub Flattened : Type 0
Flattened =
    (stored : Stored) (book : LexOutput) → StoredBytes stored → check_book stored.tape stored.bytes ≡ accepted book
    → (room : Room) (made : Stored) → flatten_book stored room ≡ accepted made
    → Flat book made
