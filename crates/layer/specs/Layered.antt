-- Sections 3 and 5: a new layer above others, the nodes of a source grafted into it, and number 18's part of it.
use Rattle.std.specs.Prelude.{◌≡◌, refl, ℕ, ◌+◌, ◌-◌, ◌*◌, ◌≤◌, Bool, true, false, ◌&&◌, leb}
use Rattle.std.proofs.Math.Path.{sym}
use Rattle.std.proofs.Common.{ap, ◌∙◌, arith, length-append}
use mathlib.Core.List.{List, [], ◌++◌, map, flatten}
use Rattle.std.proofs.Math.ListN.{length}
use Rattle.std.proofs.lemmas.List.{length-map}
use borrow.Author.Tests.{le-leb, leb-true}
use Rattle.model.specs.Lists.{sum}
use Rattle.model.specs.Limits.{max_pool, max_new_strings}
use Rattle.model.specs.Intern.{fresh_interner}
use Rattle.model.specs.Types.{Layer as ModelLayer, SourceNode, LexOutput}
use Rattle.model.specs.Store.{store_of, string_counts, content_counts, segment_counts}
use Rattle.model.specs.Tape.{records_bytes, string_codec, content_codec, segment_codec, node_codec, layer_bytes, places, book_at}
use Rattle.model.specs.Tree.{shown_node, shown_nodes}
use Rattle.model.specs.Graft.{NewLayer, layered, layer_of, With, graft_node_refs}
use Rattle.model.specs.Merge.{grafted}
use Rattle.facts.specs.Truth.{both, by_bool}
use Rattle.sizes.specs.declared.Room.{Room}
use Rattle.sizes.specs.Added.{Added}
use Rattle.sizes.specs.Trees.{nodes_size, node_refs_grow}
use Rattle.graft.specs.declared.Plan.{Plan}
use Rattle.graft.specs.declared.Mark.{Mark}
use Rattle.graft.specs.Grafted.{Sized}
use Rattle.graft.specs.NodeItems.{refs_sized, refs_width, length_refs}
use Rattle.store.specs.declared.Totals.{Totals}
use Rattle.layer.specs.declared.Grafted.{Grafted}
use Rattle.layer.specs.Lengths.{strings_width}

-- ---- definitions

-- Number 3 of the layers below.
pub record TotalsFit (o : Totals) : Type 0 where
  pub strings : o.strings ≤ max_pool
  pub contents : o.contents ≤ max_pool
  pub segments : o.segments ≤ max_pool

-- Section 3. `NodeStore::layered`, by the counts of the layers below.
unfoldable pub new_layer : Totals → NewLayer
new_layer o = record {
  string_offset = o.strings;
  content_offset = o.contents;
  segment_offset = o.segments;
  interner = fresh_interner;
  contents = [];
  segments = [];
}

-- Section 5. The nodes of the source, grafted into it.
unfoldable pub grafted_into : List ℕ → List ℕ → Totals → With (List SourceNode)
grafted_into t d o = graft_node_refs (shown_nodes (book_at t (places t) d)) (new_layer o)

-- what that adds
abbrev pub source_adds : List ℕ → List ℕ → Added
source_adds t d = nodes_size (shown_nodes (book_at t (places t) d))

-- the layer's records, and behind them those of the nodes
unfoldable pub layer_records : With (List SourceNode) → List ℕ
layer_records g = layer_bytes (layer_of g.1) ++ records_bytes node_codec g.0

-- Number 18's part: at most 3583 strings, no pool over number 3's limit, and room for the records in a tape of `size` bytes from `at` on
-- and for the strings in a buffer of `room` bytes from `base` on.
unfoldable pub layer_ok : ℕ → ℕ → ℕ → ℕ → Totals → With (List SourceNode) → Bool
layer_ok size room at base o g =
    leb (length g.1.interner.strings) max_new_strings && leb (o.strings + length g.1.interner.strings) max_pool
    && leb (o.contents + length g.1.contents) max_pool && leb (o.segments + length g.1.segments) max_pool
    && leb (at + length (layer_records g)) size && leb (base + length (flatten g.1.interner.strings)) room

-- the code's values
abbrev pub room_left : Totals → Room
room_left o = record { contents = 1048575 - o.contents; segments = 1048575 - o.segments }

abbrev pub plan_of : Totals → ℕ → ℕ → Plan
plan_of o at contents = record { strings = o.strings; contents = o.contents; segments = o.segments; contents_at = at + 1; segments_at = at + 1 + 10 * contents }

abbrev pub layer_by : Mark → ℕ → Grafted
layer_by m len = record { len = len; strings = m.state.count; contents = m.contents; segments = m.segments; state = m.state }

-- ---- a layer above those of a book

-- the counts of the layers below
pub record Above (o : Totals) (ls : List ModelLayer) : Type 0 where
  pub strings : o.strings ≡ sum (string_counts ls)
  pub contents : o.contents ≡ sum (content_counts ls)
  pub segments : o.segments ≡ sum (segment_counts ls)

pub new_layered : {o : Totals} {ls : List ModelLayer} → Above o ls → new_layer o ≡ layered ls
unfolding new_layer layered
new_layered a = λ i. record { string_offset = a.strings i; content_offset = a.contents i; segment_offset = a.segments i; interner = fresh_interner; contents = []; segments = [] }

-- it is the model's graft of a reading
pub grafted_above : (t d : List ℕ) {o : Totals} (old : LexOutput) → Above o old.layers → grafted_into t d o ≡ grafted old (book_at t (places t) d)
unfolding grafted_into grafted
grafted_above t d old a = ap (graft_node_refs (shown_nodes (book_at t (places t) d))) (new_layered a)

-- ---- its numbers

-- what the source adds, and how long the records are
pub record LayerSizes (g : With (List SourceNode)) (a : Added) (nodes : ℕ) : Type 0 where
  pub contents : length g.1.contents ≡ a.contents
  pub segments : length g.1.segments ≡ a.segments
  pub count : length g.0 ≡ nodes
  pub content_bytes : length (records_bytes content_codec g.1.contents) ≡ 10 * a.contents
  pub segment_bytes : length (records_bytes segment_codec g.1.segments) ≡ 37 * a.segments
  pub node_bytes : length (records_bytes node_codec g.0) ≡ 49 * nodes
  pub layer : length (layer_bytes (layer_of g.1)) ≡ 1 + 5 * length g.1.interner.strings + 10 * a.contents + 37 * a.segments
  pub bytes : length (layer_records g) ≡ 1 + 5 * length g.1.interner.strings + 10 * a.contents + 37 * a.segments + 49 * nodes

empty_sized : (o : Totals) → Sized (new_layer o)
unfolding new_layer records_bytes flatten
empty_sized o = record { contents = refl; segments = refl }

layer_long : (f : NewLayer) → Sized f → length (layer_bytes (layer_of f)) ≡ 1 + 5 * length f.interner.strings + 10 * length f.contents + 37 * length f.segments
unfolding layer_bytes layer_of
layer_long f s =
    let rs = records_bytes string_codec (map length f.interner.strings) in
    let cs = records_bytes content_codec f.contents in
    let ss = records_bytes segment_codec f.segments in
    omega (arith, length-append rs (cs ++ ss), length-append cs ss, s.contents, s.segments, strings_width (map length f.interner.strings), length-map f.interner.strings length)

shown_long : (b : LexOutput) → length (shown_nodes b) ≡ length b.source_nodes
unfolding shown_nodes
shown_long b = length-map b.source_nodes (shown_node (store_of b.layers))

pub layer_sizes : (t d : List ℕ) (o : Totals) {nodes : ℕ} → length (book_at t (places t) d).source_nodes ≡ nodes → LayerSizes (grafted_into t d o) (source_adds t d) nodes
unfolding grafted_into layer_records new_layer
layer_sizes t d o {nodes} e =
    let ns = shown_nodes (book_at t (places t) d) in
    let g = graft_node_refs ns (new_layer o) in
    let k = node_refs_grow ns (new_layer o) in
    let n : length g.0 ≡ nodes = length_refs ns (new_layer o) ∙ shown_long (book_at t (places t) d) ∙ e in
    let s = refs_sized ns (new_layer o) (empty_sized o) in
    let l = layer_long g.1 s in
    let w = refs_width ns (new_layer o) in
    record {
      contents = omega (arith, k.contents);
      segments = omega (arith, k.segments);
      count = n;
      content_bytes = omega (arith, s.contents, k.contents);
      segment_bytes = omega (arith, s.segments, k.segments);
      node_bytes = omega (arith, w, n);
      layer = omega (arith, l, k.contents, k.segments);
      bytes = omega (arith, l, k.contents, k.segments, n, w, length-append (layer_bytes (layer_of g.1)) (records_bytes node_codec g.0));
    }

-- ---- number 18

pub record LayerFits (size room at base : ℕ) (o : Totals) (g : With (List SourceNode)) : Type 0 where
  pub few : length g.1.interner.strings ≤ max_new_strings
  pub strings : o.strings + length g.1.interner.strings ≤ max_pool
  pub contents : o.contents + length g.1.contents ≤ max_pool
  pub segments : o.segments + length g.1.segments ≤ max_pool
  pub tape : at + length (layer_records g) ≤ size
  pub bytes : base + length (flatten g.1.interner.strings) ≤ room

module _ (size room at base : ℕ) (o : Totals) (g : With (List SourceNode)) where
  pub layer_fits_lem : layer_ok size room at base o g ≡ true → LayerFits size room at base o g
  unfolding layer_ok
  layer_fits_lem e =
      let u₀ = both _ (leb (base + length (flatten g.1.interner.strings)) room) e in
      let u₁ = both _ (leb (at + length (layer_records g)) size) u₀.0 in
      let u₂ = both _ (leb (o.segments + length g.1.segments) max_pool) u₁.0 in
      let u₃ = both _ (leb (o.contents + length g.1.contents) max_pool) u₂.0 in
      let u₄ = both (leb (length g.1.interner.strings) max_new_strings) (leb (o.strings + length g.1.interner.strings) max_pool) u₃.0 in
      record {
        few = leb-true (length g.1.interner.strings) max_new_strings u₄.0;
        strings = leb-true (o.strings + length g.1.interner.strings) max_pool u₄.1;
        contents = leb-true (o.contents + length g.1.contents) max_pool u₃.1;
        segments = leb-true (o.segments + length g.1.segments) max_pool u₂.1;
        tape = leb-true (at + length (layer_records g)) size u₁.1;
        bytes = leb-true (base + length (flatten g.1.interner.strings)) room u₀.1;
      }

  pub layer_ok_lem : LayerFits size room at base o g → true ≡ layer_ok size room at base o g
  unfolding layer_ok
  layer_ok_lem f =
      sym (rw (
        le-leb (length g.1.interner.strings) max_new_strings f.few,
        le-leb (o.strings + length g.1.interner.strings) max_pool f.strings,
        le-leb (o.contents + length g.1.contents) max_pool f.contents,
        le-leb (o.segments + length g.1.segments) max_pool f.segments,
        le-leb (at + length (layer_records g)) size f.tape,
        le-leb (base + length (flatten g.1.interner.strings)) room f.bytes,
      ) refl)

  pub layer_refused : (LayerFits size room at base o g → ⊥) → false ≡ layer_ok size room at base o g
  layer_refused h = by_bool (layer_ok size room at base o g) (λ e. absurd (h (layer_fits_lem e))) (λ e. sym e)
