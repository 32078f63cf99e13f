-- The three kinds of records that are grafted one after the other: the contents and the segments of a run, and the nodes.
use Rattle.std.specs.Prelude.{refl, ℕ, ◌*◌, List}
use Rattle.std.proofs.Math.Path.{ap}
use Rattle.std.proofs.Common.{◌∙◌}
use Rattle.model.specs.Types.{Segment, SourceNode}
use Rattle.model.specs.Tape.{content_codec, segment_codec, node_codec}
use Rattle.model.specs.Tree.{show_contents, show_segments}
use Rattle.model.specs.Graft.{graft_contents, graft_segments, graft_node_refs}
use Rattle.store.specs.declared.Store.{Store}
use Rattle.ids.specs.Tests.{content_in, segment_in, node_in}
use Rattle.sizes.specs.InPlace.{inner_adds, content_adds, contents_add, segments_add, node_adds, nodes_add}
use Rattle.sizes.specs.Trees.{length_contents, length_segments}
use Rattle.sizes.specs.Shown.{show_inner, contents_shown, segments_shown}
use Rattle.graft.specs.Rebased.{steps_each, steps_every}
use Rattle.graft.specs.Widths.{contents_width, segments_width, contents_sized, segments_sized}
use Rattle.graft.specs.Named.{source_store}
use Rattle.graft.specs.Walk.{Source, shown_contents, shown_segments}
use Rattle.graft.specs.Parts.{contents_parts, segments_parts}
use Rattle.graft.specs.Rooms.{shown_contents_grow, shown_segments_grow}
use Rattle.graft.specs.NodeItems.{steps_refs, refs_parts, refs_sized, refs_width, length_refs, shown_of, shown_append, shown_long, shown_nodes_grow}
use Rattle.graft.specs.Loop.{Grafts}

module _ {t d : List ℕ} {st : Store} (s : Source t d st) where
  pub content_grafts : (l : ℕ) → Grafts t content_codec 10 (shown_contents l t d) (content_in st) (content_adds (inner_adds l t st) t st) (contents_add (inner_adds l t st) t st)
  unfolding content_codec contents_add show_contents graft_contents
  content_grafts l =
      let show = show_inner l (source_store t d) in
      let shown = show_contents show (source_store t d) in
      record {
        wide = refl;
        summed = λ at n. refl;
        none = λ f. refl;
        parts = contents_parts show (source_store t d);
        steps = λ xs. steps_each (shown xs);
        sized = λ xs. contents_sized (shown xs);
        bytes = λ xs f. contents_width (graft_contents (shown xs) f).0 ∙ ap (λ (n : ℕ). 10 * n) (length_contents (shown xs) f ∙ contents_shown show (source_store t d) xs);
        grows = shown_contents_grow t d st s l;
      }

  pub segment_grafts : (l : ℕ) → Grafts t segment_codec 37 (shown_segments l t d) (segment_in st) (λ (x : Segment). inner_adds l t st x.body) (segments_add (inner_adds l t st) t)
  unfolding segment_codec segments_add show_segments graft_segments
  segment_grafts l =
      let show = show_inner l (source_store t d) in
      let shown = show_segments show in
      record {
        wide = refl;
        summed = λ at n. refl;
        none = λ f. refl;
        parts = segments_parts show (source_store t d);
        steps = λ xs. steps_every (shown xs);
        sized = λ xs. segments_sized (shown xs);
        bytes = λ xs f. segments_width (shown xs) f ∙ ap (λ (n : ℕ). 37 * n) (length_segments (shown xs) f ∙ segments_shown show xs);
        grows = shown_segments_grow t d st s l;
      }

  pub node_grafts : Grafts t node_codec 49 (λ (ns : List SourceNode). graft_node_refs (shown_of t d ns)) (node_in st) (node_adds t st) (nodes_add t st)
  unfolding node_codec nodes_add shown_of graft_node_refs
  node_grafts = record {
    wide = refl;
    summed = λ at n. refl;
    none = λ f. refl;
    parts = λ xs ys f. ap (λ ns. graft_node_refs ns f) (shown_append t d xs ys) ∙ refs_parts (shown_of t d xs) (shown_of t d ys) f;
    steps = λ xs. steps_refs (shown_of t d xs);
    sized = λ xs. refs_sized (shown_of t d xs);
    bytes = λ xs f. refs_width (shown_of t d xs) f ∙ ap (λ (n : ℕ). 49 * n) (length_refs (shown_of t d xs) f ∙ shown_long t d xs);
    grows = shown_nodes_grow t d st s;
  }
