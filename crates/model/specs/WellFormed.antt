-- Section 4 from 'Well formed' on, and numbers 1 to 7 of the table: what a book or a reading must be.
use Rattle.std.specs.Prelude.{ℕ, ◌+◌, ◌-◌, ◌*◌, Bool, true, cond, not, ◌&&◌, ◌||◌, length, get_or, leb, ltb, eqb}
use Rattle.std.proofs.Math.Option.{Option, none, some}
use mathlib.Core.List.{List, [], ◌∷◌, map, flatten}
use Rattle.model.specs.Lists.{all, sum}
use Rattle.model.specs.Limits.{no_string, max_level, sentinel_length, max_text, max_pool, max_list, max_layers}
use Rattle.model.specs.Utf8.{utf8}
use Rattle.model.specs.Offset.{Span}
use Rattle.model.specs.Types.{Body, Content, Segment, Layer, SourceNode, PairLink, ContainerPair, Diagnostic, LexOutput, RegionOutput}
use Rattle.model.specs.Refusal.{Checked, Checked.refused, Checked.accepted, ◌>>=◌, refuse◌if◌}
use Rattle.model.specs.Store.{NodeStore, store_of, string_counts, content_counts, segment_counts, range_ok, id_ok, resolve_content_range, resolve_seg_range}
use Rattle.model.specs.Tape.{Field, Field.str, Field.opt_str, Field.content_range, Field.seg_range, fields_of, node_fields, parse}

-- ---- 2

-- Number 2. Both texts, and each string by itself.
unfoldable pub texts_are_utf8 : LexOutput → Bool
texts_are_utf8 b = utf8 b.sanitized && utf8 b.normalized && all (λ (l : Layer). all utf8 l.strings) b.layers

-- ---- 3

-- Number 3. Text or normalized over 16777215 bytes, a pool over 1048575, another list over 262143, layers over 32. A pool is
-- counted across the layers.
unfoldable pub within_limits : LexOutput → Bool
within_limits b =
    leb (length b.sanitized) max_text && leb (length b.normalized) max_text
    && leb (sum (string_counts b.layers)) max_pool && leb (sum (content_counts b.layers)) max_pool && leb (sum (segment_counts b.layers)) max_pool
    && leb (length b.source_nodes) max_list && leb (length b.pairs) max_list && leb (length b.container_pairs) max_list && leb (length b.diagnostics) max_list
    && leb (length b.layers) max_layers

-- ---- 4

-- the word of a body at a place
abbrev pub word_of : Body → ℕ → ℕ
word_of b i = get_or b.words i 0

-- Number 4. The id or range of a field; only an id that may be missing may be 0xFFFFFFFF.
unfoldable pub field_ok : List Layer → Body → Field → Bool
field_ok ls b (str i) = id_ok (string_counts ls) (word_of b i)
field_ok ls b (opt_str i) = eqb (word_of b i) no_string || id_ok (string_counts ls) (word_of b i)
field_ok ls b (content_range i) = range_ok (content_counts ls) (word_of b i) (word_of b (i + 1))
field_ok ls b (seg_range i) = range_ok (segment_counts ls) (word_of b i) (word_of b (i + 1))

unfoldable pub content_ok : List Layer → Content → Bool
content_ok ls c = cond (eqb c.tag 0) (id_ok (string_counts ls) c.first) (range_ok (segment_counts ls) c.first c.second)

unfoldable pub segment_ok : List Layer → Segment → Bool
segment_ok ls s = all (field_ok ls s.body) (fields_of s.body)

unfoldable pub node_ok : List Layer → SourceNode → Bool
node_ok ls n = all (field_ok ls n.body) (node_fields n)

-- Number 4. Every id and range of every pool item, used or not, and of every node.
unfoldable pub ids_ok : LexOutput → Bool
ids_ok b =
    all (λ (l : Layer). all (content_ok b.layers) l.contents && all (segment_ok b.layers) l.segments) b.layers
    && all (node_ok b.layers) b.source_nodes

-- ---- 5

-- the segment run that a content names
unfoldable pub content_segments : NodeStore → Content → List Segment
content_segments st c = cond (eqb c.tag 0) [] (resolve_seg_range st c.first c.second)

-- the segments in the runs that a field's contents or caption name
unfoldable pub field_segments : NodeStore → Body → Field → List Segment
field_segments st b (str i) = []
field_segments st b (opt_str i) = []
field_segments st b (content_range i) = flatten (map (content_segments st) (resolve_content_range st (word_of b i) (word_of b (i + 1))))
field_segments st b (seg_range i) = resolve_seg_range st (word_of b i) (word_of b (i + 1))

-- Section 4. Level: 0 for segment tags 0..2; a Node segment's is 1..32 and above every level in the segment runs its contents
-- or caption name.
unfoldable pub level_ok : NodeStore → Segment → Bool
level_ok st s =
    cond (ltb s.tag 3) (eqb s.level 0)
    (leb 1 s.level && leb s.level max_level
    && all (λ (f : Field). all (λ (inner : Segment). ltb inner.level s.level) (field_segments st s.body f)) (fields_of s.body))

-- Number 5.
unfoldable pub levels_ok : LexOutput → Bool
levels_ok b = all (level_ok (store_of b.layers)) (store_of b.layers).segments

-- ---- 6

-- not empty, and inside a text of this length
unfoldable pub span_ok : ℕ → Span → Bool
span_ok size s = ltb s.start s.end && leb s.end size

-- Section 4. Each node's end ≤ next start; `from` is the end before.
unfoldable pub ordered : ℕ → List SourceNode → Bool
ordered from [] = true
ordered from (n ∷ ns) = leb from n.source_span.start && ordered n.source_span.end ns

-- Section 4. `standalone_padding`: 2 for BlockLeaf and for BlockOpen and BlockClose with inline 0, else 0.
unfoldable pub standalone_padding : SourceNode → ℕ
standalone_padding n = cond (eqb n.class 0) 0 (cond (eqb n.class 1) 2 (cond (eqb n.inline 0) 2 0))

-- Section 4. A node's image is 3 + 2 × padding bytes.
unfoldable pub image_length : SourceNode → ℕ
image_length n = sentinel_length + 2 * standalone_padding n

-- `Span::len` of a node
unfoldable pub span_length : SourceNode → ℕ
span_length n = n.source_span.end - n.source_span.start

-- Section 4. A node's normalized offset lies in its image, which begins at its start plus earlier drift. Drift is image minus
-- span length; the spans stand on the other side here, so that no number is signed.
unfoldable pub offsets_ok : ℕ → ℕ → List SourceNode → Bool
offsets_ok images spans [] = true
offsets_ok images spans (n ∷ ns) =
    leb (n.source_span.start + images) (n.normalized_offset + spans)
    && ltb (n.normalized_offset + spans) (n.source_span.start + images + image_length n)
    && offsets_ok (images + image_length n) (spans + span_length n) ns

-- Section 4. Pairs: open and close non-empty, open end ≤ close start, inside the text.
unfoldable pub pair_ok : ℕ → PairLink → Bool
pair_ok size p = span_ok size p.opening && span_ok size p.closing && leb p.opening.end p.closing.start

-- Section 4. Containers: open < close < normalized length.
unfoldable pub container_ok : ℕ → ContainerPair → Bool
container_ok size c = ltb c.opening c.closing && ltb c.closing size

-- Section 4. Diagnostics inside the text. Wish 5. Diagnostics with start equal to end become well formed, also at the text's end.
unfoldable pub diagnostic_ok : ℕ → Diagnostic → Bool
diagnostic_ok size d = leb d.span.start d.span.end && leb d.span.end size

-- Number 6. Spans, offsets in images, pairs, containers, diagnostics.
unfoldable pub places_ok : LexOutput → Bool
places_ok b =
    all (λ (n : SourceNode). span_ok (length b.sanitized) n.source_span) b.source_nodes && ordered 0 b.source_nodes && offsets_ok 0 0 b.source_nodes
    && all (pair_ok (length b.sanitized)) b.pairs
    && all (container_ok (length b.normalized)) b.container_pairs
    && all (diagnostic_ok (length b.sanitized)) b.diagnostics

-- ---- 7

unfoldable pub images : List SourceNode → ℕ
images ns = sum (map image_length ns)

unfoldable pub spans : List SourceNode → ℕ
spans ns = sum (map span_length ns)

-- Number 7. Normalized length = text length + all drift, with the spans on the other side.
unfoldable pub normalized_length_ok : LexOutput → Bool
normalized_length_ok b = eqb (length b.normalized + spans b.source_nodes) (length b.sanitized + images b.source_nodes)

-- ---- 1 to 7, rising

unfoldable pub laid_out : Option LexOutput → Checked LexOutput
laid_out none = refused 1
laid_out (some b) = accepted b

unfoldable pub well_formed : LexOutput → Checked LexOutput
well_formed b = do
  _ ← refuse 2 if not (texts_are_utf8 b)
  _ ← refuse 3 if not (within_limits b)
  _ ← refuse 4 if not (ids_ok b)
  _ ← refuse 5 if not (levels_ok b)
  _ ← refuse 6 if not (places_ok b)
  _ ← refuse 7 if not (normalized_length_ok b)
  accepted b

-- `check_book`: numbers 1 to 7 of a book.
unfoldable pub check_book : List ℕ → List ℕ → Checked LexOutput
check_book tape bytes = do
  b ← laid_out (parse tape bytes)
  well_formed b

-- `check_reading`: numbers 1 to 7 of a reading, which has exactly one layer; another count is 1 too.
unfoldable pub check_reading : List ℕ → List ℕ → Checked RegionOutput
check_reading tape bytes = do
  b ← laid_out (parse tape bytes)
  _ ← refuse 1 if not (eqb (length b.layers) 1)
  well_formed b
