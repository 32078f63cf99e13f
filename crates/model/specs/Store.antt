-- Section 3: the three pools of a store, each numbered from 0 across the layers.
use Rattle.std.specs.Prelude.{ℕ, ◌+◌, ◌-◌, Bool, false, cond, ◌&&◌, ◌||◌, length, get_or, take, drop, leb, ltb, eqb}
use Rattle.std.proofs.Math.Option.{Option, none, some}
use mathlib.Core.List.{List, [], ◌∷◌, map, flatten}
use Rattle.model.specs.Lists.{sum}
use Rattle.model.specs.Bytes.{part}
use Rattle.model.specs.Offset.{Span}
use Rattle.model.specs.Types.{Content, Segment, Layer}

-- Section 3. `NodeStore`: strings, contents and segments are three pools.
pub record NodeStore : Type 0 where
  pub strings : List (List ℕ)
  pub contents : List Content
  pub segments : List Segment

-- Section 3. The pools run through the layers, the first layer first.
unfoldable pub store_of : List Layer → NodeStore
store_of ls = record {
  strings = flatten (map (λ (l : Layer). l.strings) ls);
  contents = flatten (map (λ (l : Layer). l.contents) ls);
  segments = flatten (map (λ (l : Layer). l.segments) ls);
}

-- ---- where the layers begin

-- how many of each pool the layers hold, layer by layer
unfoldable pub string_counts : List Layer → List ℕ
string_counts ls = map (λ (l : Layer). length l.strings) ls

unfoldable pub content_counts : List Layer → List ℕ
content_counts ls = map (λ (l : Layer). length l.contents) ls

unfoldable pub segment_counts : List Layer → List ℕ
segment_counts ls = map (λ (l : Layer). length l.segments) ls

-- Section 3. A store remembers where each of its layers begins: by the layers' counts, the first at `from`.
unfoldable pub layer_starts : ℕ → List ℕ → List ℕ
layer_starts from [] = []
layer_starts from (n ∷ ns) = from ∷ layer_starts (from + n) ns

-- ---- ids and ranges

-- does a run lie in one of the layers, the first of which begins at `from`?
unfoldable pub in_one_layer : ℕ → List ℕ → ℕ → ℕ → Bool
in_one_layer from [] start len = false
in_one_layer from (n ∷ ns) start len = (leb from start && leb (start + len) (from + n)) || in_one_layer (from + n) ns start len

-- Section 3. A range's start plus length is at most its pool's count; one of length above 0 lies in one layer.
unfoldable pub range_ok : List ℕ → ℕ → ℕ → Bool
range_ok counts start len = leb (start + len) (sum counts) && (eqb len 0 || in_one_layer 0 counts start len)

-- an id of a pool with these counts
unfoldable pub id_ok : List ℕ → ℕ → Bool
id_ok counts id = ltb id (sum counts)

-- ---- resolving

-- `resolve_str`
unfoldable pub resolve_str : NodeStore → ℕ → List ℕ
resolve_str st id = get_or st.strings id []

-- `resolve_content_range`
unfoldable pub resolve_content_range : NodeStore → ℕ → ℕ → List Content
resolve_content_range st start len = take len (drop start st.contents)

-- `resolve_seg_range`
unfoldable pub resolve_seg_range : NodeStore → ℕ → ℕ → List Segment
resolve_seg_range st start len = take len (drop start st.segments)

unfoldable pub as_plain : NodeStore → List Content → Option (List ℕ)
as_plain st [] = none
as_plain st (c ∷ []) = cond (eqb c.tag 0) (some (resolve_str st c.first)) none
as_plain st (c ∷ d ∷ cs) = none

-- Section 6. `content_range_as_plain`: a range of exactly one Plain content gives its string, all others none.
unfoldable pub content_range_as_plain : NodeStore → ℕ → ℕ → Option (List ℕ)
content_range_as_plain st start len = as_plain st (resolve_content_range st start len)

-- Section 3. Where a string stands in the bytes of its pool, by the lengths of the pool's strings.
unfoldable pub string_span : List ℕ → ℕ → Span
string_span lengths id = record { start = sum (take id lengths); end = sum (take id lengths) + get_or lengths id 0 }

-- Section 3. A resolved string is shown as a part of the old string bytes or of the new layer's, chosen by its id: the old
-- strings come first. Each side is the lengths of its strings and its bytes.
unfoldable pub shown_part : List ℕ → List ℕ → List ℕ → List ℕ → ℕ → List ℕ
shown_part oldLengths oldBytes new_lengths newBytes id =
    let old = string_span oldLengths id in
    let new = string_span new_lengths (id - length oldLengths) in
    cond (ltb id (length oldLengths)) (part oldBytes old.start (old.end - old.start)) (part newBytes new.start (new.end - new.start))
