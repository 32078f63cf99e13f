-- Section 7, its first paragraph: the merge, tape to tape; numbers 12 to 18 of the table.
use Rattle.std.specs.Prelude.{ℕ, suc, ◌+◌, ◌-◌, Bool, cond, not, ◌&&◌, ◌||◌, List, [], ◌∷◌, ◌++◌, map, length, take, drop, replicate, leb, ltb, eqb, ℤ, pos}
use Rattle.std.proofs.Math.Option.{get_or}
use Rattle.std.proofs.Math.IntN.{sub_ℕ}
use Rattle.model.specs.Lists.{any, keep, is_empty, same}
use Rattle.model.specs.Limits.{max_layers, max_new_strings, min_work_words}
use Rattle.model.specs.Bytes.{part}
use Rattle.model.specs.Utf8.{is_char_boundary}
use Rattle.model.specs.Offset.{Span, shifted, shift_u32}
use Rattle.model.specs.Intern.{InternStats}
use Rattle.model.specs.Types.{Layer, SourceNode, PairLink, ContainerPair, Diagnostic, LexOutput, RegionOutput}
use Rattle.model.specs.Refusal.{Checked, Checked.refused, Checked.accepted, ◌>>=◌, refuse◌if◌}
use Rattle.model.specs.Store.{NodeStore, store_of}
use Rattle.model.specs.Tape.{tape_of, bytes_of}
use Rattle.model.specs.WellFormed.{images, spans, within_limits, check_book, check_reading}
use Rattle.model.specs.Tree.{shown_nodes}
use Rattle.model.specs.Graft.{NewLayer, layered, layer_of, With, graft_node_refs}
use Rattle.model.specs.Region.{Edit, edited, behind_edit, is_block_open, is_block_close, is_warichu_open, is_warichu_close, is_ruby, is_referenced_format, depth_behind, first_plain, is_among, with_plain, chosen_region}

-- ---- what is asked, and what is answered

-- a tape and its byte buffer
pub record Stored : Type 0 where
  pub tape : List ℕ
  pub bytes : List ℕ

abbrev pub stored_of : List ℕ → List ℕ → Stored
stored_of tape bytes = record { tape = tape; bytes = bytes }

-- what is lent: the lengths of the two result buffers, and how many work words
pub record Room : Type 0 where
  pub tape_bytes : ℕ
  pub text_bytes : ℕ
  pub work_words : ℕ

-- the room of these buffers and words
abbrev pub room_of : List ℕ → List ℕ → List ℕ → Room
room_of tape text work = record { tape_bytes = length tape; text_bytes = length text; work_words = length work }

-- Section 7. `IncrementalOutput`, and what is returned too: region, reused (old nodes kept), reread (reading's nodes), the
-- seven counts. `reparsed_nodes` is document 01's reread.
pub record IncrementalOutput : Type 0 where
  pub output : Stored
  pub region : Span
  pub reused_nodes : ℕ
  pub reparsed_nodes : ℕ
  pub stats : InternStats

-- the tape and the bytes of an accepted result; none of a refused one
unfoldable pub output_tape : Checked IncrementalOutput → List ℕ
output_tape (refused n) = []
output_tape (accepted a) = a.output.tape

unfoldable pub output_bytes : Checked IncrementalOutput → List ℕ
output_bytes (refused n) = []
output_bytes (accepted a) = a.output.bytes

unfoldable pub result_of : Checked IncrementalOutput → Stored
result_of x = stored_of (output_tape x) (output_bytes x)

-- ---- 12 to 15: what the reading must be

-- Number 12. The new region's text.
unfoldable pub new_region_text : LexOutput → Edit → Span → List ℕ
new_region_text old e r = part (edited old.sanitized e) r.start (behind_edit e r.end - r.start)

-- no close falls below 0, and all that opens is closed
unfoldable pub balanced_from : (SourceNode → Bool) → (SourceNode → Bool) → ℕ → List SourceNode → Bool
balanced_from opens closes d [] = eqb d 0
balanced_from opens closes d (n ∷ ns) = not (closes n && eqb d 0) && balanced_from opens closes (depth_behind opens closes d n) ns

-- Number 13. `balanced_nodes`.
unfoldable pub balanced_nodes : List SourceNode → Bool
balanced_nodes ns = balanced_from is_block_open is_block_close 0 ns && balanced_from is_warichu_open is_warichu_close 0 ns

-- Number 14. Diagnostic kind 2, UnclosedBracket, or 3, UnmatchedClose.
unfoldable pub is_unclosed : Diagnostic → Bool
is_unclosed d = eqb d.kind 2 || eqb d.kind 3

-- Wish 5. A mark of no width at this place.
unfoldable pub is_mark_at : ℕ → Diagnostic → Bool
is_mark_at o d = eqb d.span.start o && eqb d.span.end o

-- Wish 5. Condition 14 also holds where the region is empty and a mark of no width of the old book lies at its place: nothing
-- tells on which side of the new text it belongs. A mark of any kind does.
unfoldable pub mark_at_empty_region : List Diagnostic → Span → Bool
mark_at_empty_region old r = eqb r.start r.end && any (is_mark_at r.start) old

-- the plain bases of the Rubies among nodes
unfoldable pub ruby_bases : NodeStore → List SourceNode → List (List ℕ)
ruby_bases st [] = []
ruby_bases st (n ∷ ns) = let rest = ruby_bases st ns in cond (is_ruby n) (with_plain (first_plain st n) rest) rest

-- Number 15. `introduces_ruby_format_dependency`: a Ruby of the reading and a Referenced Format behind the region, or a
-- Referenced Format of the reading whose target is the base of a Ruby before the region.
unfoldable pub introduces_ruby_format_dependency : LexOutput → RegionOutput → Span → Bool
introduces_ruby_format_dependency old reading r =
    let before = keep (λ (n : SourceNode). leb n.source_span.end r.start) old.source_nodes in
    let behind = keep (λ (n : SourceNode). leb r.end n.source_span.start) old.source_nodes in
    let rubies = ruby_bases (store_of old.layers) before in
    (any is_ruby reading.source_nodes && any is_referenced_format behind)
    || any (λ (n : SourceNode). is_referenced_format n && is_among rubies (first_plain (store_of reading.layers) n)) reading.source_nodes

-- ---- 16: the cuts

-- `normalized_offset`: a source offset's place in the normalized text, which is the offset plus the drift of the nodes that end
-- at or before it.
unfoldable pub normalized_offset : List SourceNode → ℕ → ℕ
normalized_offset ns o =
    let before = keep (λ (n : SourceNode). leb n.source_span.end o) ns in
    o + images before - spans before

-- Section 7. Change in length: replacement bytes minus (end minus start).
unfoldable pub change_in_length : Edit → ℤ
change_in_length e = sub_ℕ (length e.replacement) (e.end - e.start)

-- `MergeWindow`: the region in both texts, and how far what lies behind it moves in each.
pub record MergeWindow : Type 0 where
  pub source : Span
  pub normalized : Span
  pub source_delta : ℤ
  pub normalized_delta : ℤ

unfoldable pub window_of : LexOutput → Edit → RegionOutput → Span → MergeWindow
window_of old e reading r =
    let start = normalized_offset old.source_nodes r.start in
    let end = normalized_offset old.source_nodes r.end in
    record {
      source = r;
      normalized = record { start = start; end = end };
      source_delta = change_in_length e;
      normalized_delta = sub_ℕ (length reading.normalized) (end - start);
    }

-- Number 16. No cut falls inside a normalized character.
unfoldable pub cuts_ok : LexOutput → MergeWindow → Bool
cuts_ok old w = is_char_boundary old.normalized w.normalized.start && is_char_boundary old.normalized w.normalized.end

-- ---- the lists

-- How the elements of a list lie in a text and move with it: the part of the text that an element takes, the region in that
-- text, an element of the reading moved to the region, and an element of the old rest moved.
pub record Located (A : Type 0) : Type 0 where
  pub place : A → Span
  pub window : MergeWindow → Span
  pub placed : MergeWindow → A → A
  pub moved : MergeWindow → A → A

unfoldable pub kept_before : {A : Type 0} → Located A → MergeWindow → List A → List A
kept_before l w old = keep (λ a. leb (l.place a).end (l.window w).start) old

unfoldable pub kept_behind : {A : Type 0} → Located A → MergeWindow → List A → List A
kept_behind l w old = keep (λ a. leb (l.window w).end (l.place a).start) old

-- Section 7. Old part up to the region, reading moved, old rest moved; whatever straddles a region edge is dropped.
unfoldable pub spliced : {A : Type 0} → Located A → MergeWindow → List A → List A → List A
spliced l w old reading = kept_before l w old ++ (map (l.placed w) reading ++ map (l.moved w) (kept_behind l w old))

-- A normalized offset of the old rest, moved. On a book that passes 1 to 7 `shift_u32` has an answer here.
unfoldable pub moved_offset : ℕ → ℤ → ℕ
moved_offset o by = get_or (shift_u32 o by) 0

-- `merge_source_nodes`
unfoldable pub node_located : Located SourceNode
node_located = record {
  place = λ n. n.source_span;
  window = λ w. w.source;
  placed = λ w n. record {
    class = n.class;
    inline = n.inline;
    source_span = shifted n.source_span (pos w.source.start);
    normalized_offset = n.normalized_offset + w.normalized.start;
    body = n.body;
  };
  moved = λ w n. record {
    class = n.class;
    inline = n.inline;
    source_span = shifted n.source_span w.source_delta;
    normalized_offset = moved_offset n.normalized_offset w.normalized_delta;
    body = n.body;
  };
}

unfoldable pub shifted_pair : ℤ → PairLink → PairLink
shifted_pair by p = record { kind = p.kind; opening = shifted p.opening by; closing = shifted p.closing by }

-- `merge_pairs`
unfoldable pub pair_located : Located PairLink
pair_located = record {
  place = λ p. record { start = p.opening.start; end = p.closing.end };
  window = λ w. w.source;
  placed = λ w p. shifted_pair (pos w.source.start) p;
  moved = λ w p. shifted_pair w.source_delta p;
}

-- `merge_container_pairs`. Section 7. Containers: close < normalized start, or open ≥ normalized end. So a container's place
-- ends behind its close.
unfoldable pub container_located : Located ContainerPair
container_located = record {
  place = λ c. record { start = c.opening; end = suc c.closing };
  window = λ w. w.normalized;
  placed = λ w c. record { plain = c.plain; opening = c.opening + w.normalized.start; closing = c.closing + w.normalized.start };
  moved = λ w c. record { plain = c.plain; opening = moved_offset c.opening w.normalized_delta; closing = moved_offset c.closing w.normalized_delta };
}

unfoldable pub shifted_diagnostic : ℤ → Diagnostic → Diagnostic
shifted_diagnostic by d = record { kind = d.kind; code_rank = d.code_rank; span = shifted d.span by; plain = d.plain }

-- `merge_diagnostics`. Wish 5. A mark of no width at or before the region's start counts as before it; otherwise one at or behind
-- the region's end counts as behind. Only a mark at an empty region could count as both, and that is 14 (`CountedOnce`).
unfoldable pub diagnostic_located : Located Diagnostic
diagnostic_located = record {
  place = λ d. d.span;
  window = λ w. w.source;
  placed = λ w d. shifted_diagnostic (pos w.source.start) d;
  moved = λ w d. shifted_diagnostic w.source_delta d;
}

-- Section 7. By start, end, code rank: the key of d is not behind that of e.
unfoldable pub not_behind : Diagnostic → Diagnostic → Bool
not_behind d e =
    ltb d.span.start e.span.start
    || (eqb d.span.start e.span.start
    && (ltb d.span.end e.span.end
    || (eqb d.span.end e.span.end && leb d.code_rank e.code_rank)))

unfoldable pub insert_diagnostic : Diagnostic → List Diagnostic → List Diagnostic
insert_diagnostic d [] = d ∷ []
insert_diagnostic d (e ∷ es) = let later = e ∷ insert_diagnostic d es in cond (not_behind d e) (d ∷ e ∷ es) later

-- Section 7. Diagnostics sorted by start, end, code rank; equal keys keep their order.
unfoldable pub sort_diagnostics : List Diagnostic → List Diagnostic
sort_diagnostics [] = []
sort_diagnostics (d ∷ ds) = insert_diagnostic d (sort_diagnostics ds)

-- `merge_normalized`
unfoldable pub merged_normalized : MergeWindow → LexOutput → RegionOutput → List ℕ
merged_normalized w old reading =
    take w.normalized.start old.normalized ++ (reading.normalized ++ drop w.normalized.end old.normalized)

-- ---- the result

-- Section 5. The reading's nodes, grafted above the old layers.
unfoldable pub grafted : LexOutput → RegionOutput → With (List SourceNode)
grafted old reading = graft_node_refs (shown_nodes reading) (layered old.layers)

-- Section 5. A reading with no nodes adds no layer.
unfoldable pub merged_layers : LexOutput → RegionOutput → NewLayer → List Layer
merged_layers old reading f = cond (is_empty reading.source_nodes) old.layers (old.layers ++ (layer_of f ∷ []))

-- Section 7. The merged book.
unfoldable pub merged_book : LexOutput → Edit → RegionOutput → MergeWindow → With (List SourceNode) → LexOutput
merged_book old e reading w g = record {
  sanitized = edited old.sanitized e;
  normalized = merged_normalized w old reading;
  layers = merged_layers old reading g.1;
  source_nodes = spliced node_located w old.source_nodes g.0;
  pairs = spliced pair_located w old.pairs reading.pairs;
  container_pairs = spliced container_located w old.container_pairs reading.container_pairs;
  diagnostics = sort_diagnostics (spliced diagnostic_located w old.diagnostics reading.diagnostics);
}

unfoldable pub stored_book : LexOutput → Stored
stored_book b = record { tape = tape_of b; bytes = bytes_of b }

-- Section 7. What is returned. The counts are all 0 without a new layer, since then nothing is grafted.
unfoldable pub answer : LexOutput → RegionOutput → MergeWindow → With (List SourceNode) → LexOutput → IncrementalOutput
answer old reading w g new = record {
  output = stored_book new;
  region = w.source;
  reused_nodes = length (kept_before node_located w old.source_nodes) + length (kept_behind node_located w old.source_nodes);
  reparsed_nodes = length reading.source_nodes;
  stats = g.1.interner.stats;
}

-- ---- 18

unfoldable pub fits_room : Room → Stored → Bool
fits_room room s = leb (length s.tape) room.tape_bytes && leb (length s.bytes) room.text_bytes

-- Number 18. The result passes a limit of 3, its new layer has over 3583 strings, a result buffer is too short, or under 16384
-- work words are lent.
unfoldable pub result_ok : Room → With (List SourceNode) → LexOutput → Stored → Bool
result_ok room g new s =
    within_limits new && leb (length g.1.interner.strings) max_new_strings && fits_room room s && leb min_work_words room.work_words

-- ---- the merge, in the table's order

-- 12 to 17, of a book and a reading that passed: the merge's window.
unfoldable pub fitting : LexOutput → Edit → Span → RegionOutput → Checked MergeWindow
fitting old e r reading =
    let w = window_of old e reading r in
    do
      _ ← refuse 12 if not (same reading.sanitized (new_region_text old e r))
      _ ← refuse 13 if not (balanced_nodes reading.source_nodes)
      _ ← refuse 14 if any is_unclosed reading.diagnostics || mark_at_empty_region old.diagnostics r
      _ ← refuse 15 if introduces_ruby_format_dependency old reading r
      _ ← refuse 16 if not (cuts_ok old w)
      _ ← refuse 17 if not (is_empty reading.source_nodes) && leb max_layers (length old.layers)
      accepted w

-- 18 of what passed 1 to 17, and the answer.
unfoldable pub result_checked : LexOutput → Edit → RegionOutput → MergeWindow → Room → Checked IncrementalOutput
result_checked old e reading w room =
    let g = grafted old reading in
    let new = merged_book old e reading w g in
    let a = answer old reading w g new in
    do
      _ ← refuse 18 if not (result_ok room g new a.output)
      accepted a

-- 12 to 18, of a book and a reading that passed.
unfoldable pub merge_books : LexOutput → Edit → Span → RegionOutput → Room → Checked IncrementalOutput
merge_books old e r reading room = do
  w ← fitting old e r reading
  result_checked old e reading w room

-- `merge`. Order: old book 1 to 7, rising; edit 8; replacement 2, new text 3; 9, 10, 11; reading as the old book; 12 to 18.
unfoldable pub merge : Stored → Edit → Stored → Room → Checked IncrementalOutput
merge book e reading room = do
  old ← check_book book.tape book.bytes
  r ← chosen_region old e
  new ← check_reading reading.tape reading.bytes
  merge_books old e r new room

-- ---- the merge up to 17

-- What passed 1 to 17: the old book, the reading, the merge's window.
pub record Fitted : Type 0 where
  pub old : LexOutput
  pub reading : RegionOutput
  pub window : MergeWindow

-- 1 to 17, in the merge's order.
unfoldable pub fitted : Stored → Edit → Stored → Checked Fitted
fitted book e reading = do
  old ← check_book book.tape book.bytes
  r ← chosen_region old e
  new ← check_reading reading.tape reading.bytes
  w ← fitting old e r new
  accepted (record { old = old; reading = new; window = w })

-- ---- what the lent buffers hold at the end

-- a list, and zeros up to a size
unfoldable pub padded : ℕ → List ℕ → List ℕ
padded size l = l ++ replicate (size - length l) 0

-- Accepted, bytes past the result are 0; after a refusal all are.
unfoldable pub tape_buffer : Room → Checked IncrementalOutput → List ℕ
tape_buffer room (refused n) = replicate room.tape_bytes 0
tape_buffer room (accepted m) = padded room.tape_bytes m.output.tape

unfoldable pub text_buffer : Room → Checked IncrementalOutput → List ℕ
text_buffer room (refused n) = replicate room.text_bytes 0
text_buffer room (accepted m) = padded room.text_bytes m.output.bytes

-- All work words are 0, accepted or not.
unfoldable pub work_buffer : Room → List ℕ
work_buffer room = replicate room.work_words 0
