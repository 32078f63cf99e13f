-- Sections 3 and 7: lookups in a book that passes 1 to 7, the separate yes or no, and a book read and written again. A lookup
-- without an answer says none.
use Rattle.std.specs.Prelude.{ℕ, zero, suc, ◌+◌, Bool, cond, not, List, map, length, replicate, leb, ltb}
use Rattle.std.proofs.Math.Option.{Option, none, some}
use Rattle.std.proofs.Math.ListN.{get_elem?}
use Rattle.model.specs.Lists.{all, keep}
use Rattle.model.specs.Offset.{Span}
use Rattle.model.specs.Types.{Content, Segment, SourceNode, Diagnostic, LexOutput}
use Rattle.model.specs.Refusal.{Checked, Checked.refused, Checked.accepted, ◌>>=◌, refuse◌if◌}
use Rattle.model.specs.Store.{store_of, content_counts, segment_counts, range_ok, resolve_content_range, resolve_seg_range, string_span}
use Rattle.model.specs.WellFormed.{check_book}
use Rattle.model.specs.Merge.{Stored, stored_of, Room, stored_book, fits_room, padded}

-- What is asked of a book: 1 to 7 first, then the answer.
unfoldable pub ask_book : {A : Type 0} → List ℕ → List ℕ → (LexOutput → A) → Checked A
ask_book tape bytes f = do
  b ← check_book tape bytes
  accepted (f b)

-- `diagnostics_allow_incremental`: only UnresolvedGaiji and NonCanonicalDirective.
unfoldable pub diagnostics_allow_incremental : List Diagnostic → Bool
diagnostics_allow_incremental ds = all (λ (d : Diagnostic). ltb d.kind 2) ds

unfoldable pub ends_behind : ℕ → ℕ → Option SourceNode → Option ℕ
ends_behind o i none = none
ends_behind o i (some n) = cond (ltb o n.source_span.end) (some i) none

unfoldable pub last_of : List SourceNode → ℕ → ℕ → Option ℕ
last_of ns o zero = none
last_of ns o (suc i) = ends_behind o i (get_elem? ns i)

-- `node_at_source`, as the node's place in the list: the last node that starts at or before an offset, if the offset lies
-- before that node's end.
unfoldable pub node_at_source : List SourceNode → ℕ → Option ℕ
node_at_source ns o = last_of ns o (length (keep (λ (n : SourceNode). leb n.source_span.start o) ns))

-- the string of an id
unfoldable pub lookup_str : LexOutput → ℕ → Option (List ℕ)
lookup_str b id = get_elem? (store_of b.layers).strings id

-- Where the string of an id stands in the byte buffer: behind both texts and the strings before it.
unfoldable pub lookup_str_span : LexOutput → ℕ → Option Span
lookup_str_span b id =
    let strings = (store_of b.layers).strings in
    let from = length b.sanitized + length b.normalized in
    let at = string_span (map length strings) id in
    cond (ltb id (length strings)) (some (record { start = from + at.start; end = from + at.end })) none

-- is it a range of contents, of segments, under section 3?
abbrev pub contents_ok : ℕ → ℕ → LexOutput → Bool
contents_ok start len b = range_ok (content_counts b.layers) start len

abbrev pub segments_ok : ℕ → ℕ → LexOutput → Bool
segments_ok start len b = range_ok (segment_counts b.layers) start len

-- the contents of a range under section 3
unfoldable pub lookup_contents : LexOutput → ℕ → ℕ → Option (List Content)
lookup_contents b start len =
    cond (contents_ok start len b) (some (resolve_content_range (store_of b.layers) start len)) none

-- the segments of a range under section 3
unfoldable pub lookup_segments : LexOutput → ℕ → ℕ → Option (List Segment)
lookup_segments b start len =
    cond (segments_ok start len b) (some (resolve_seg_range (store_of b.layers) start len)) none

-- `copy_book`: a book read and written again; 18 for a short buffer.
unfoldable pub copy_book : Stored → Room → Checked Stored
copy_book stored room = do
  b ← check_book stored.tape stored.bytes
  _ ← refuse 18 if not (fits_room room (stored_book b))
  accepted (stored_book b)

-- The copy of a book into result buffers of these lengths; no work words are lent.
unfoldable pub copy_into : List ℕ → List ℕ → ℕ → ℕ → Checked Stored
copy_into t d tape bytes = copy_book (stored_of t d) (record { tape_bytes = tape; text_bytes = bytes; work_words = 0 })

-- What the two lent buffers hold after it: the copy and zeros behind it, or zeros after a refusal.
unfoldable pub copied_tape : ℕ → Checked Stored → List ℕ
copied_tape size (refused n) = replicate size 0
copied_tape size (accepted s) = padded size s.tape

unfoldable pub copied_bytes : ℕ → Checked Stored → List ℕ
copied_bytes size (refused n) = replicate size 0
copied_bytes size (accepted s) = padded size s.bytes
