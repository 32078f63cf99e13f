-- Section 4, down to 'Well formed': the tape. Its records as one table, where they stand, the book that a tape and its bytes
-- hold, and the tape and bytes of a book.
use Rattle.std.specs.Prelude.{ℕ, zero, suc, ◌+◌, ◌-◌, ◌*◌, ◌%◌, Bool, true, cond, not, ◌&&◌, ◌||◌, length, get_or, take, drop, leb, ltb, eqb}
use Rattle.std.proofs.Math.Option.{Option, none, some}
use mathlib.Core.List.{List, [], ◌∷◌, ◌++◌, map, flatten}
use Rattle.model.specs.Lists.{all, any, tabulate, sum, is_empty}
use Rattle.model.specs.Bytes.{byte_at, word_at, word_bytes}
use Rattle.model.specs.Offset.{Span}
use Rattle.model.specs.Types.{Body, Content, Segment, Layer, SourceNode, PairLink, ContainerPair, Diagnostic, LexOutput}

-- ---- records

-- Section 4. An operand of a command: a byte (b), or a u32 in four bytes, little-endian.
pub data Operand : Type 0 where
  byte word : Operand

abbrev pub operand_size : Operand → ℕ
operand_size byte = 1
operand_size word = 4

-- A kind of record: its command byte, its operands in their order, and the value that they stand for.
pub record Codec (A : Type 0) : Type 0 where
  pub command : ℕ
  pub operands : List Operand
  pub decode : List ℕ → A
  pub encode : A → List ℕ

-- how many bytes a record has, its command byte with it
abbrev pub record_size : {A : Type 0} → Codec A → ℕ
record_size c = 1 + sum (map operand_size c.operands)

abbrev pub value_at : Operand → List ℕ → ℕ → ℕ
value_at byte t p = byte_at t p
value_at word t p = word_at t p

abbrev pub value_bytes : Operand → ℕ → List ℕ
value_bytes byte v = v ∷ []
value_bytes word v = word_bytes v

-- the operands behind the place p, the first of them at p + k
unfoldable pub operands_at : List Operand → List ℕ → ℕ → ℕ → List ℕ
operands_at [] t p k = []
operands_at (o ∷ os) t p k = value_at o t (p + k) ∷ operands_at os t p (k + operand_size o)

-- the record whose command byte stands at p
unfoldable pub record_at : {A : Type 0} → Codec A → List ℕ → ℕ → A
record_at c t p = c.decode (operands_at c.operands t p 1)

unfoldable pub operand_bytes : List Operand → List ℕ → List ℕ
operand_bytes [] vs = []
operand_bytes (o ∷ os) [] = []
operand_bytes (o ∷ os) (v ∷ vs) = value_bytes o v ++ operand_bytes os vs

unfoldable pub record_bytes : {A : Type 0} → Codec A → A → List ℕ
record_bytes c a = c.command ∷ operand_bytes c.operands (c.encode a)

-- a run of records of one kind, one behind the other
unfoldable pub records_at : {A : Type 0} → Codec A → List ℕ → ℕ → ℕ → List A
records_at c t p count = tabulate count (λ i. record_at c t (p + record_size c * i))

unfoldable pub records_bytes : {A : Type 0} → Codec A → List A → List ℕ
records_bytes c xs = flatten (map (record_bytes c) xs)

-- ---- the table of records

abbrev pub span_of : List ℕ → ℕ → Span
span_of vs i = record { start = get_or vs i 0; end = get_or vs (i + 1) 0 }

-- Section 4. Body: b kind, b tag, two plain words, six words.
abbrev pub body_operands : List Operand
body_operands = byte ∷ byte ∷ word ∷ word ∷ word ∷ word ∷ word ∷ word ∷ word ∷ word ∷ []

abbrev pub body_of : List ℕ → Body
body_of vs = record { kind = get_or vs 0 0; tag = get_or vs 1 0; plain1 = get_or vs 2 0; plain2 = get_or vs 3 0; words = drop 4 vs }

abbrev pub body_values : Body → List ℕ
body_values b = b.kind ∷ b.tag ∷ b.plain1 ∷ b.plain2 ∷ b.words

-- Section 4. 3: string length.
unfoldable pub string_codec : Codec ℕ
string_codec = record { command = 3; operands = word ∷ []; decode = λ vs. get_or vs 0 0; encode = λ length. length ∷ [] }

-- Section 4. 4: b tag (0 Plain: id, 0; 1 Segments: start, length).
unfoldable pub content_codec : Codec Content
content_codec = record {
  command = 4;
  operands = byte ∷ word ∷ word ∷ [];
  decode = λ vs. record { tag = get_or vs 0 0; first = get_or vs 1 0; second = get_or vs 2 0 };
  encode = λ c. c.tag ∷ c.first ∷ c.second ∷ [];
}

-- Section 4. 5: b tag (0 Text, 1 Gaiji, 2 Directive, 3 Node), b level, body.
unfoldable pub segment_codec : Codec Segment
segment_codec = record {
  command = 5;
  operands = byte ∷ byte ∷ body_operands;
  decode = λ vs. record { tag = get_or vs 0 0; level = get_or vs 1 0; body = body_of (drop 2 vs) };
  encode = λ s. s.tag ∷ s.level ∷ body_values s.body;
}

-- Section 4. 6 node: b class, b inline, start, end, normalized offset, body.
unfoldable pub node_codec : Codec SourceNode
node_codec = record {
  command = 6;
  operands = byte ∷ byte ∷ word ∷ word ∷ word ∷ body_operands;
  decode = λ vs. record {
    class = get_or vs 0 0;
    inline = get_or vs 1 0;
    source_span = span_of vs 2;
    normalized_offset = get_or vs 4 0;
    body = body_of (drop 5 vs);
  };
  encode = λ n. n.class ∷ n.inline ∷ n.source_span.start ∷ n.source_span.end ∷ n.normalized_offset ∷ body_values n.body;
}

-- Section 4. 7 pair: b kind, open start, end, close start, end.
unfoldable pub pair_codec : Codec PairLink
pair_codec = record {
  command = 7;
  operands = byte ∷ word ∷ word ∷ word ∷ word ∷ [];
  decode = λ vs. record { kind = get_or vs 0 0; opening = span_of vs 1; closing = span_of vs 3 };
  encode = λ p. p.kind ∷ p.opening.start ∷ p.opening.end ∷ p.closing.start ∷ p.closing.end ∷ [];
}

-- Section 4. 8 container: plain, open, close (normalized).
unfoldable pub container_codec : Codec ContainerPair
container_codec = record {
  command = 8;
  operands = word ∷ word ∷ word ∷ [];
  decode = λ vs. record { plain = get_or vs 0 0; opening = get_or vs 1 0; closing = get_or vs 2 0 };
  encode = λ c. c.plain ∷ c.opening ∷ c.closing ∷ [];
}

-- Section 4. 9 diagnostic: b kind, code rank, start, end, plain.
unfoldable pub diagnostic_codec : Codec Diagnostic
diagnostic_codec = record {
  command = 9;
  operands = byte ∷ word ∷ word ∷ word ∷ word ∷ [];
  decode = λ vs. record { kind = get_or vs 0 0; code_rank = get_or vs 1 0; span = span_of vs 2; plain = get_or vs 4 0 };
  encode = λ d. d.kind ∷ d.code_rank ∷ d.span.start ∷ d.span.end ∷ d.plain ∷ [];
}

-- ---- the words of a body

-- A field of a body, with the place of its first word among the six: a string's id, an id that may be missing, start and
-- length of a run of contents, start and length of a run of segments.
pub data Field : Type 0 where
  str opt_str content_range seg_range : ℕ → Field

-- Section 4. Format: a payload string only for AccentBody and QuotedTarget; the tag is origin × 4 + payload.
abbrev pub payload_fields : ℕ → List Field
payload_fields tag = cond (leb 2 (tag % 4)) (str 2 ∷ []) []

-- Section 4. Gaiji: mencode only with tag 2, Unresolved, and there it may be missing.
abbrev pub mencode_fields : ℕ → List Field
mencode_fields tag = cond (eqb tag 2) (opt_str 1 ∷ []) []

-- Section 4. Illustration: tag 1, a Plain caption; tag 2, Segments.
abbrev pub caption_fields : ℕ → List Field
caption_fields tag = cond (eqb tag 1) (str 4 ∷ []) (cond (eqb tag 2) (seg_range 4 ∷ []) [])

-- Section 4. The fields of each kind, for a tag, in the order in which section 5 grafts them. The number behind a field is its
-- place among the words.
unfoldable pub field_table : ℕ → List (List Field)
field_table tag =
    (str 0 ∷ [])  -- 0 text
    ∷ (content_range 0 ∷ content_range 2 ∷ [])  -- 1 Ruby: base, reading
    ∷ (content_range 0 ∷ payload_fields tag)  -- 2 Format: target, payload
    ∷ (mencode_fields tag ++ (str 0 ∷ []))  -- 3 Gaiji: mencode, hint
    ∷ []  -- 4 Line
    ∷ []  -- 5 PageBreak
    ∷ []  -- 6 SectionBreak
    ∷ []  -- 7 BodyEnd
    ∷ []  -- 8 ForcedBreak
    ∷ (content_range 0 ∷ [])  -- 9 Heading: text
    ∷ (str 0 ∷ [])  -- 10 HeadingHint: target
    ∷ (str 0 ∷ opt_str 1 ∷ opt_str 2 ∷ caption_fields tag ++ (opt_str 3 ∷ []))  -- 11 Illustration: file, number, dimensions, caption, description
    ∷ (str 0 ∷ [])  -- 12 Kaeriten: mark
    ∷ (str 0 ∷ [])  -- 13 Directive: raw
    ∷ (content_range 0 ∷ [])  -- 14 AngleQuote: content
    ∷ (content_range 0 ∷ content_range 2 ∷ [])  -- 15 MarginNote: base, note
    ∷ []

unfoldable pub fields_of : Body → List Field
fields_of b = get_or (field_table b.tag) b.kind []

-- Section 4. Classes 2 and 3 have no words.
unfoldable pub node_fields : SourceNode → List Field
node_fields n = cond (ltb n.class 2) (fields_of n.body) []

-- Section 4. How many tags each kind has.
unfoldable pub tag_counts : List ℕ
tag_counts = 1 ∷ 1 ∷ 16 ∷ 3 ∷ 1 ∷ 1 ∷ 1 ∷ 1 ∷ 1 ∷ 1 ∷ 1 ∷ 3 ∷ 1 ∷ 14 ∷ 1 ∷ 1 ∷ []

-- does a field use the word at a place?
abbrev pub uses_word : ℕ → Field → Bool
uses_word i (str p) = eqb i p
uses_word i (opt_str p) = eqb i p
uses_word i (content_range p) = eqb i p || eqb i (p + 1)
uses_word i (seg_range p) = eqb i p || eqb i (p + 1)

-- Section 4. Unused words are 0; i is the place of the first word.
unfoldable pub unused_zero : List Field → ℕ → List ℕ → Bool
unused_zero fs i [] = true
unused_zero fs i (w ∷ ws) = (any (uses_word i) fs || eqb w 0) && unused_zero fs (i + 1) ws

-- ---- the shapes of records

-- Section 4. Unused words and tags are 0; a kind that is none has no tag.
unfoldable pub body_shape : List Field → Body → Bool
body_shape fs b = ltb b.tag (get_or tag_counts b.kind 0) && unused_zero fs 0 b.words

-- Section 4. Tag 0 Plain: id, 0; tag 1 Segments.
unfoldable pub content_shape : Content → Bool
content_shape c = (eqb c.tag 0 && eqb c.second 0) || eqb c.tag 1

-- Section 4. Segment tags 0, 1 and 2 carry kinds 0, 3 and 13; tag 3 carries 1..15.
unfoldable pub segment_shape : Segment → Bool
segment_shape s =
    let kind = s.body.kind in
    ((eqb s.tag 0 && eqb kind 0) || (eqb s.tag 1 && eqb kind 3) || (eqb s.tag 2 && eqb kind 13) || (eqb s.tag 3 && leb 1 kind))
    && body_shape (fields_of s.body) s.body

-- Section 4. Classes 0 and 1 carry 1..15 and inline 0; classes 2 and 3 carry 0, and inline is 0 or 1.
unfoldable pub node_shape : SourceNode → Bool
node_shape n =
    ((ltb n.class 2 && leb 1 n.body.kind && eqb n.inline 0) || (leb 2 n.class && ltb n.class 4 && eqb n.body.kind 0 && ltb n.inline 2))
    && body_shape (node_fields n) n.body

-- Section 4. Kind 0..4 in `PairKind` order.
unfoldable pub pair_shape : PairLink → Bool
pair_shape p = ltb p.kind 5

-- Section 4. Diagnostic kind 0..4.
unfoldable pub diagnostic_shape : Diagnostic → Bool
diagnostic_shape d = ltb d.kind 5

unfoldable pub layer_shape : Layer → Bool
layer_shape l = all content_shape l.contents && all segment_shape l.segments

unfoldable pub book_shape : LexOutput → Bool
book_shape b = all layer_shape b.layers && all node_shape b.source_nodes && all pair_shape b.pairs && all diagnostic_shape b.diagnostics

-- ---- where the records stand

-- How many records of a command and a size stand one behind the other at the head of a tape, once `skip` bytes are passed. It
-- goes down the tape, so that it needs no bound; a record that is cut short counts too.
unfoldable pub records_in : ℕ → ℕ → ℕ → List ℕ → ℕ
records_in command size skip [] = 0
records_in command size zero (b ∷ t) =
    let more = suc (records_in command size (size - 1) t) in
    cond (eqb b command) more 0
records_in command size (suc skip) (b ∷ t) = records_in command size skip t

-- how many records of a kind stand one behind the other from place p on
unfoldable pub count_at : {A : Type 0} → Codec A → List ℕ → ℕ → ℕ
count_at c t p = records_in c.command (record_size c) 0 (drop p t)

-- where a layer's records begin, how many they are, and where the layer ends
pub record LayerPlaces : Type 0 where
  pub strings_at : ℕ
  pub string_count : ℕ
  pub contents_at : ℕ
  pub content_count : ℕ
  pub segments_at : ℕ
  pub segment_count : ℕ
  pub end_at : ℕ

-- Section 4. Per layer 2, then 3s, 4s, 5s: the layer whose command 2 stands at p.
unfoldable pub layer_places : List ℕ → ℕ → LayerPlaces
layer_places t p =
    let strings = count_at string_codec t (p + 1) in
    let contents_at = p + 1 + record_size string_codec * strings in
    let contents = count_at content_codec t contents_at in
    let segments_at = contents_at + record_size content_codec * contents in
    let segments = count_at segment_codec t segments_at in
    record {
      strings_at = p + 1;
      string_count = strings;
      contents_at = contents_at;
      content_count = contents;
      segments_at = segments_at;
      segment_count = segments;
      end_at = segments_at + record_size segment_codec * segments;
    }

-- the layers from place p on; the tape's length bounds how many they are
unfoldable pub layers_from : ℕ → List ℕ → ℕ → List LayerPlaces
layers_from zero t p = []
layers_from (suc n) t p =
    let l = layer_places t p in
    let more = l ∷ layers_from n t l.end_at in
    cond (eqb (byte_at t p) 2) more []

-- where the last of the layers ends, the first beginning at p
unfoldable pub layers_end : ℕ → List LayerPlaces → ℕ
layers_end p [] = p
layers_end p (l ∷ ls) = layers_end l.end_at ls

pub record Places : Type 0 where
  pub layers : List LayerPlaces
  pub nodes_at : ℕ
  pub node_count : ℕ
  pub pairs_at : ℕ
  pub pair_count : ℕ
  pub containers_at : ℕ
  pub container_count : ℕ
  pub diagnostics_at : ℕ
  pub diagnostic_count : ℕ
  pub end_at : ℕ

-- Section 4. In this order: 1 once (nine bytes), layers, 6s, 7s, 8s, 9s, 10.
unfoldable pub places : List ℕ → Places
places t =
    let layers = layers_from (length t) t 9 in
    let nodes_at = layers_end 9 layers in
    let nodes = count_at node_codec t nodes_at in
    let pairs_at = nodes_at + record_size node_codec * nodes in
    let pairs = count_at pair_codec t pairs_at in
    let containers_at = pairs_at + record_size pair_codec * pairs in
    let containers = count_at container_codec t containers_at in
    let diagnostics_at = containers_at + record_size container_codec * containers in
    let diagnostics = count_at diagnostic_codec t diagnostics_at in
    record {
      layers = layers;
      nodes_at = nodes_at;
      node_count = nodes;
      pairs_at = pairs_at;
      pair_count = pairs;
      containers_at = containers_at;
      container_count = containers;
      diagnostics_at = diagnostics_at;
      diagnostic_count = diagnostics;
      end_at = diagnostics_at + record_size diagnostic_codec * diagnostics;
    }

-- Section 4. The tape begins with command 1 and ends with command 10. A record that is cut short ends past the tape's end.
unfoldable pub framed : List ℕ → Places → Bool
framed t p = eqb (byte_at t 0) 1 && eqb (byte_at t p.end_at) 10 && eqb (length t) (p.end_at + 1)

-- ---- reading

-- the lengths of a layer's strings
unfoldable pub string_lengths : List ℕ → LayerPlaces → List ℕ
string_lengths t l = records_at string_codec t l.strings_at l.string_count

-- bytes cut into pieces of these lengths
unfoldable pub pieces : List ℕ → List ℕ → List (List ℕ)
pieces [] b = []
pieces (n ∷ ns) b = take n b ∷ pieces ns (drop n b)

-- a layer, whose strings begin at the head of b
unfoldable pub layer_at : List ℕ → LayerPlaces → List ℕ → Layer
layer_at t l b = record {
  strings = pieces (string_lengths t l) b;
  contents = records_at content_codec t l.contents_at l.content_count;
  segments = records_at segment_codec t l.segments_at l.segment_count;
}

unfoldable pub layers_at : List ℕ → List LayerPlaces → List ℕ → List Layer
layers_at t [] b = []
layers_at t (l ∷ ls) b = layer_at t l b ∷ layers_at t ls (drop (sum (string_lengths t l)) b)

-- Section 4. The byte buffer: text, normalized text, strings, nothing more.
unfoldable pub bytes_needed : List ℕ → Places → ℕ
bytes_needed t p = word_at t 1 + word_at t 5 + sum (map (λ l. sum (string_lengths t l)) p.layers)

unfoldable pub book_at : List ℕ → Places → List ℕ → LexOutput
book_at t p b = record {
  sanitized = take (word_at t 1) b;
  normalized = take (word_at t 5) (drop (word_at t 1) b);
  layers = layers_at t p.layers (drop (word_at t 1 + word_at t 5) b);
  source_nodes = records_at node_codec t p.nodes_at p.node_count;
  pairs = records_at pair_codec t p.pairs_at p.pair_count;
  container_pairs = records_at container_codec t p.containers_at p.container_count;
  diagnostics = records_at diagnostic_codec t p.diagnostics_at p.diagnostic_count;
}

unfoldable pub if_shaped : LexOutput → Option LexOutput
if_shaped b = cond (book_shape b) (some b) none

-- Number 1. The book that a tape and its bytes hold; none where they break section 4's layout or there is no layer.
unfoldable pub parse : List ℕ → List ℕ → Option LexOutput
parse t b =
    let p = places t in
    let book = if_shaped (book_at t p b) in
    cond (framed t p && not (is_empty p.layers) && eqb (length b) (bytes_needed t p)) book none

-- ---- writing

unfoldable pub layer_bytes : Layer → List ℕ
layer_bytes l = 2 ∷ records_bytes string_codec (map length l.strings) ++ (records_bytes content_codec l.contents ++ records_bytes segment_codec l.segments)

-- Section 4. The tape of a book.
unfoldable pub tape_of : LexOutput → List ℕ
tape_of b =
    1 ∷ flatten (
    word_bytes (length b.sanitized) ∷ word_bytes (length b.normalized)
    ∷ flatten (map layer_bytes b.layers)
    ∷ records_bytes node_codec b.source_nodes
    ∷ records_bytes pair_codec b.pairs
    ∷ records_bytes container_codec b.container_pairs
    ∷ records_bytes diagnostic_codec b.diagnostics
    ∷ (10 ∷ []) ∷ [])

-- Section 4. Its byte buffer: text, normalized text, strings.
unfoldable pub bytes_of : LexOutput → List ℕ
bytes_of b = b.sanitized ++ (b.normalized ++ flatten (map (λ (l : Layer). flatten l.strings) b.layers))
