-- Wish 2: price before the merge. An estimate from book, edit, replacement and reading, without grafting.
use Rattle.std.specs.Prelude.{ℕ, ◌+◌, Bool, cond, ◌||◌, length, ltb}
use mathlib.Core.List.{List, map, flatten}
use Rattle.model.specs.Limits.{max_pool}
use Rattle.model.specs.Types.{Layer, SourceNode, LexOutput, RegionOutput}
use Rattle.model.specs.Refusal.{Checked, Checked.accepted, ◌>>=◌}
use Rattle.model.specs.Graft.{With}
use Rattle.model.specs.Region.{Edit, edited}
use Rattle.model.specs.Merge.{Stored, MergeWindow, merged_normalized, grafted, fitted}

-- Wish 2. Reread nodes, intern calls, contents and segments added, and the length of the result's byte buffer without the new
-- layer's strings.
pub record Estimate : Type 0 where
  pub reparsed_nodes : ℕ
  pub calls : ℕ
  pub contents : ℕ
  pub segments : ℕ
  pub byte_length : ℕ

-- Wish 2. 1048576, meaning over.
abbrev pub over : ℕ
over = 1048576

-- Wish 2. Intern calls, contents or segments are above 1048575.
unfoldable pub is_over : ℕ → ℕ → ℕ → Bool
is_over calls contents segments = ltb max_pool calls || ltb max_pool contents || ltb max_pool segments

-- Wish 2. The length of the result's byte buffer without the new layer's strings: both new texts and the old layers' strings.
unfoldable pub length_before : LexOutput → Edit → RegionOutput → MergeWindow → ℕ
length_before old e reading w =
    length (edited old.sanitized e) + length (merged_normalized w old reading) + length (flatten (map (λ (l : Layer). flatten l.strings) old.layers))

-- Wish 2. What sections 5 and 7 make of this merge. If one of the three is above 1048575, all three are given as 1048576.
unfoldable pub price_of : LexOutput → Edit → RegionOutput → MergeWindow → With (List SourceNode) → Estimate
price_of old e reading w g =
    let calls = g.1.interner.stats.calls in
    let contents = length g.1.contents in
    let segments = length g.1.segments in
    let all = is_over calls contents segments in
    record {
      reparsed_nodes = length reading.source_nodes;
      calls = cond all over calls;
      contents = cond all over contents;
      segments = cond all over segments;
      byte_length = length_before old e reading w;
    }

-- Wish 2. `estimate`: the merge's 1 to 17 are given as the merge gives them; there is no 18.
unfoldable pub estimate : Stored → Edit → Stored → Checked Estimate
estimate book e reading = do
  f ← fitted book e reading
  accepted (price_of f.old e f.reading f.window (grafted f.old f.reading))
