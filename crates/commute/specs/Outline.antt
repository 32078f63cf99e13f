-- A graft changes nothing of a node but its words: where the nodes of a reading lie and what they open and close is what the
-- grafted ones do. Section 5.
use Rattle.std.specs.Prelude.{◌≡◌, refl, ℕ, ◌+◌, Bool, true, ◌&&◌, List, [], ◌∷◌, map, length, leb, ltb}
use Rattle.std.proofs.Common.{sym, ap, ◌∙◌}
use Rattle.model.specs.Lists.{all}
use Rattle.model.specs.Types.{SourceNode, LexOutput, RegionOutput}
use Rattle.model.specs.Store.{NodeStore, store_of}
use Rattle.model.specs.WellFormed.{ordered, offsets_ok, standalone_padding, image_length, span_length, images, spans}
use Rattle.model.specs.Tree.{show_with, show_node, shown_node, shown_nodes}
use Rattle.model.specs.Graft.{NewLayer, layered, graft_node, graft_node_ref, graft_node_refs}
use Rattle.model.specs.Region.{depth, is_block_open, is_block_close, is_warichu_open, is_warichu_close}
use Rattle.model.specs.Merge.{balanced_from, balanced_nodes, grafted}
use Rattle.facts.specs.Truth.{both}
use Rattle.facts.specs.Keep.{all_map_is, all_true}
use Rattle.laws.specs.Nodes.{Sound, node_in, offsets_small, offset_test, images_map, spans_map, depth_map, balanced_depth}

abbrev pub outline : SourceNode → SourceNode
outline n = record {
  class = n.class;
  inline = n.inline;
  source_span = n.source_span;
  normalized_offset = n.normalized_offset;
  body = record { kind = n.body.kind; tag = n.body.tag; plain1 = n.body.plain1; plain2 = n.body.plain2; words = [] };
}

outline_grafted : (st : NodeStore) (ns : List SourceNode) (f : NewLayer) → map outline (graft_node_refs (map (shown_node st) ns) f).0 ≡ map outline ns
unfolding graft_node_refs graft_node_ref graft_node shown_node show_node show_with
outline_grafted st [] f = refl
outline_grafted st (n ∷ ns) f = ap (λ (l : List SourceNode). outline n ∷ l) (outline_grafted st ns (graft_node_ref (shown_node st n) f).1)

-- whatever the outlines decide is the same, in whichever layer the nodes are grafted
pub same_outline : {B : Type 0} (F : List SourceNode → B) → ((ns : List SourceNode) → F (map outline ns) ≡ F ns) → (reading : LexOutput) (f : NewLayer)
    → F (graft_node_refs (shown_nodes reading) f).0 ≡ F reading.source_nodes
unfolding shown_nodes
same_outline F h reading f =
    sym (h (graft_node_refs (map (shown_node (store_of reading.layers)) reading.source_nodes) f).0)
    ∙ ap F (outline_grafted (store_of reading.layers) reading.source_nodes f)
    ∙ h reading.source_nodes

pub ordered_outline : (k : ℕ) (ns : List SourceNode) → ordered k (map outline ns) ≡ ordered k ns
unfolding ordered
ordered_outline k [] = refl
ordered_outline k (n ∷ ns) = ap (λ (t : Bool). leb k n.source_span.start && t) (ordered_outline n.source_span.end ns)

pub offsets_outline : (i s : ℕ) (ns : List SourceNode) → offsets_ok i s (map outline ns) ≡ offsets_ok i s ns
unfolding offsets_ok image_length standalone_padding span_length
offsets_outline i s [] = refl
offsets_outline i s (n ∷ ns) = ap (λ (t : Bool). offset_test i s n && t) (offsets_outline (i + image_length n) (s + span_length n) ns)

pub images_outline : (ns : List SourceNode) → images (map outline ns) ≡ images ns
unfolding image_length standalone_padding
images_outline ns = images_map (λ n. true) outline (λ n h. refl) ns (all_true ns)

pub spans_outline : (ns : List SourceNode) → spans (map outline ns) ≡ spans ns
unfolding span_length
spans_outline ns = spans_map (λ n. true) outline (λ n h. refl) ns (all_true ns)

pub record GraftedNodes (old : LexOutput) (reading : RegionOutput) : Type 0 where
  pub inside : all (node_in (length reading.sanitized)) (grafted old reading).0 ≡ true
  pub order : ordered 0 (grafted old reading).0 ≡ true
  pub offsets : offsets_ok 0 0 (grafted old reading).0 ≡ true
  pub small : all (λ (n : SourceNode). ltb n.normalized_offset (length reading.normalized)) (grafted old reading).0 ≡ true
  pub images : images (grafted old reading).0 ≡ images reading.source_nodes
  pub spans : spans (grafted old reading).0 ≡ spans reading.source_nodes
  pub blocks : depth is_block_open is_block_close 0 (grafted old reading).0 ≡ 0
  pub warichu : depth is_warichu_open is_warichu_close 0 (grafted old reading).0 ≡ 0

pub grafted_nodes : (old : LexOutput) (reading : RegionOutput) → Sound reading → balanced_nodes reading.source_nodes ≡ true → GraftedNodes old reading
unfolding grafted balanced_nodes
grafted_nodes old reading s e =
    let offset_in : SourceNode → Bool = λ n. ltb n.normalized_offset (length reading.normalized) in
    let b = both (balanced_from is_block_open is_block_close 0 reading.source_nodes) (balanced_from is_warichu_open is_warichu_close 0 reading.source_nodes) e in
    record {
      inside = same_outline (all (node_in (length reading.sanitized))) (λ ns. all_map_is (node_in (length reading.sanitized)) outline ns) reading (layered old.layers) ∙ s.places.source_spans;
      order = same_outline (ordered 0) (ordered_outline 0) reading (layered old.layers) ∙ s.places.order;
      offsets = same_outline (offsets_ok 0 0) (offsets_outline 0 0) reading (layered old.layers) ∙ s.places.offsets;
      small = same_outline (all offset_in) (λ ns. all_map_is offset_in outline ns) reading (layered old.layers) ∙ offsets_small s;
      images = same_outline images images_outline reading (layered old.layers);
      spans = same_outline spans spans_outline reading (layered old.layers);
      blocks =
          same_outline (depth is_block_open is_block_close 0) (λ ns. depth_map is_block_open is_block_close outline (λ n. refl) (λ n. refl) 0 ns) reading (layered old.layers)
          ∙ balanced_depth is_block_open is_block_close 0 reading.source_nodes b.0;
      warichu =
          same_outline (depth is_warichu_open is_warichu_close 0) (λ ns. depth_map is_warichu_open is_warichu_close outline (λ n. refl) (λ n. refl) 0 ns) reading (layered old.layers)
          ∙ balanced_depth is_warichu_open is_warichu_close 0 reading.source_nodes b.1;
    }
