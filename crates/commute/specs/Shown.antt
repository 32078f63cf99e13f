-- Nodes with their trees: a merge splices what is shown as it splices every list. Sections 5 and 7.
use Rattle.std.specs.Prelude.{◌≡◌, ◌+◌, Bool, List, ◌++◌, map, pos}
use Rattle.std.proofs.Common.{sym, ap, ap₂, ◌∙◌}
use Rattle.model.specs.Lists.{keep}
use Rattle.model.specs.Offset.{Span, shifted}
use Rattle.model.specs.Types.{SourceNode, LexOutput, RegionOutput}
use Rattle.model.specs.Tape.{node_fields}
use Rattle.model.specs.Store.{store_of}
use Rattle.model.specs.WellFormed.{node_ok}
use Rattle.model.specs.Tree.{ShownNode, show_node, shown_node, shown_nodes}
use Rattle.model.specs.Region.{Edit}
use Rattle.model.specs.Merge.{IncrementalOutput, window_of, moved_offset, Located, kept_before, kept_behind, spliced, node_located, grafted, merged_book}
use Rattle.facts.specs.Lists.{map_append, map_map}
use Rattle.facts.specs.Keep.{all_keep, keep_map, map_same}
use Rattle.laws.specs.Checks.{id_facts, merged_of}
use Rattle.laws.specs.Located.{is_before, is_behind}
use Rattle.commute.specs.Grown.{grown}
use Rattle.commute.specs.Step.{Step, limits}

-- as `node_located`
unfoldable pub shown_located : Located ShownNode
shown_located = record {
  place = λ n. n.source_span;
  window = λ w. w.source;
  placed = λ w n. record {
    class = n.class;
    inline = n.inline;
    source_span = shifted n.source_span (pos w.source.start);
    normalized_offset = n.normalized_offset + w.normalized.start;
    body = n.body;
  };
  moved = λ w n. record {
    class = n.class;
    inline = n.inline;
    source_span = shifted n.source_span w.source_delta;
    normalized_offset = moved_offset n.normalized_offset w.normalized_delta;
    body = n.body;
  };
}

-- What the nodes of a merged book show: the old book's and the reading's, spliced.
pub shown_merged : {old : LexOutput} {e : Edit} {r : Span} {reading : RegionOutput} {m : IncrementalOutput} → Step old e r reading m
    → shown_nodes (merged_of old e reading r) ≡ spliced shown_located (window_of old e reading r) (shown_nodes old) (shown_nodes reading)
unfolding shown_nodes merged_book spliced kept_before kept_behind node_located shown_located shown_node show_node node_fields
shown_merged {old} {e} {r} {reading} s =
    let w = window_of old e reading r in
    let g = grown old reading s.old_fits s.reading_fits s.old_formed s.reading_formed e r (limits s) in
    let st = store_of (merged_of old e reading r).layers in
    let st₀ = store_of old.layers in
    let ns = old.source_nodes in
    let G = (grafted old reading).0 in
    let front = keep (is_before node_located w) ns in
    let rest = keep (is_behind node_located w) ns in
    let P = map (node_located.placed w) G in
    let M = map (node_located.moved w) rest in
    let ok = (id_facts old s.old_formed.ids).source_nodes in
    let kept : (t : SourceNode → Bool) → map (shown_node st) (keep t ns) ≡ map (shown_node st₀) (keep t ns) =
    λ t. map_same (node_ok old.layers) (shown_node st) (shown_node st₀) g.kept_shows (keep t ns) (all_keep (node_ok old.layers) t ns ok) in
    let e₁ : map (shown_node st) front ≡ keep (is_before shown_located w) (map (shown_node st₀) ns) = kept (is_before node_located w) ∙ sym (keep_map (is_before shown_located w) (shown_node st₀) ns) in
    let e₂ : map (shown_node st) P ≡ map (shown_located.placed w) (map (shown_node (store_of reading.layers)) reading.source_nodes) =
    map_map (shown_node st) (node_located.placed w) G ∙ sym (map_map (shown_located.placed w) (shown_node st) G) ∙ ap (map (shown_located.placed w)) g.node_shows in
    let e₃ : map (shown_node st) M ≡ map (shown_located.moved w) (keep (is_behind shown_located w) (map (shown_node st₀) ns)) =
    map_map (shown_node st) (node_located.moved w) rest ∙ sym (map_map (shown_located.moved w) (shown_node st) rest)
    ∙ ap (map (shown_located.moved w)) (kept (is_behind node_located w) ∙ sym (keep_map (is_behind shown_located w) (shown_node st₀) ns)) in
    map_append (shown_node st) front (P ++ M) ∙ ap₂ (λ (x y : List ShownNode). x ++ y) e₁ (map_append (shown_node st) P M ∙ ap₂ (λ (x y : List ShownNode). x ++ y) e₂ e₃)
