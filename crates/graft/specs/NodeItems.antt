-- The nodes of the reading, one after the other, as the model grafts them and as the source has them.
use Rattle.std.specs.Prelude.{◌≡◌, refl, Bool, ℕ, suc, ◌+◌, ◌*◌, true, length, drop}
use Rattle.std.proofs.Common.{ap, ◌∙◌, arith, length-append}
use mathlib.Core.List.{List, [], ◌∷◌, ◌++◌, map, flatten}
use Rattle.model.specs.Lists.{all}
use Rattle.model.specs.Types.{SourceNode}
use Rattle.model.specs.Bytes.{word_at, word_bytes}
use Rattle.model.specs.Tape.{record_bytes, operand_bytes, records_bytes, node_codec}
use Rattle.model.specs.Tree.{ShownNode, shown_node}
use Rattle.model.specs.Graft.{NewLayer, With, graft_node, graft_node_ref, graft_node_refs}
use Rattle.store.specs.declared.Store.{Store}
use Rattle.ids.specs.Tests.{node_in}
use Rattle.sizes.specs.Added.{add_all}
use Rattle.sizes.specs.Trees.{Grew, node_refs_grow}
use Rattle.sizes.specs.InPlace.{node_adds}
use Rattle.sizes.specs.Shown.{nodes_agree}
use Rattle.graft.specs.Rebased.{Steps, steps_return, steps_then, steps_node}
use Rattle.graft.specs.Grafted.{layer_from, Sized}
use Rattle.graft.specs.Widths.{SixWords, six_words_lem, node_six, node_sized}
use Rattle.graft.specs.Runs.{ItemsTold}
use Rattle.graft.specs.Named.{source_store}
use Rattle.graft.specs.Walk.{Source}
use Rattle.graft.specs.declared.Plan.{Plan}
use Rattle.graft.specs.declared.Mark.{Mark}

-- ---- the model's graft of nodes

pub steps_ref : (n : ShownNode) → Steps (graft_node_ref n)
unfolding graft_node_ref
steps_ref n =
    steps_then (graft_node n.body)
    (λ b f. (record { class = n.class; inline = n.inline; source_span = n.source_span; normalized_offset = n.normalized_offset; body = b }, f))
    (steps_node n.body) (λ b. steps_return (record { class = n.class; inline = n.inline; source_span = n.source_span; normalized_offset = n.normalized_offset; body = b }))

pub steps_refs : (ns : List ShownNode) → Steps (graft_node_refs ns)
unfolding graft_node_refs
steps_refs [] = steps_return []
steps_refs (n ∷ ns) =
    steps_then (graft_node_ref n) (λ one f. let rest = graft_node_refs ns f in (one ∷ rest.0, rest.1)) (steps_ref n)
    (λ one. steps_then (graft_node_refs ns) (λ items f. (one ∷ items, f)) (steps_refs ns) (λ items. steps_return (one ∷ items)))

pub refs_parts : (xs ys : List ShownNode) (f : NewLayer)
    → graft_node_refs (xs ++ ys) f ≡ (let r = graft_node_refs xs f in let q = graft_node_refs ys r.1 in (r.0 ++ q.0, q.1))
unfolding graft_node_refs
refs_parts [] ys f = refl
refs_parts (x ∷ xs) ys f = let r = graft_node_ref x f in ap (λ (a : With (List SourceNode)). (r.0 ∷ a.0, a.1)) (refs_parts xs ys r.1)

pub refs_sized : (ns : List ShownNode) (f : NewLayer) → Sized f → Sized (graft_node_refs ns f).1
unfolding graft_node_refs graft_node_ref
refs_sized [] f x = x
refs_sized (n ∷ ns) f x = refs_sized ns (graft_node_ref n f).1 (node_sized n.body f x)

-- ---- 49 bytes a record

node_width : (n : SourceNode) → SixWords n.body → length (record_bytes node_codec n) ≡ 49
unfolding record_bytes operand_bytes node_codec word_bytes
node_width n w =
    six_words_lem n.body.words w.is
    (λ ws. length (record_bytes node_codec (record {
      class = n.class;
      inline = n.inline;
      source_span = n.source_span;
      normalized_offset = n.normalized_offset;
      body = record { kind = n.body.kind; tag = n.body.tag; plain1 = n.body.plain1; plain2 = n.body.plain2; words = ws };
    })))
    49 (λ a b d e f g. refl)

pub refs_width : (ns : List ShownNode) (f : NewLayer) → length (records_bytes node_codec (graft_node_refs ns f).0) ≡ 49 * length (graft_node_refs ns f).0
unfolding graft_node_refs graft_node_ref records_bytes flatten
refs_width [] f = refl
refs_width (n ∷ ns) f =
    let r = graft_node_ref n f in
    let rest = graft_node_refs ns r.1 in
    length-append (record_bytes node_codec r.0) (records_bytes node_codec rest.0) ∙ (let x = node_width r.0 (node_six n.body f) in let y = refs_width ns r.1 in omega (arith, x, y))

pub length_refs : (ns : List ShownNode) (f : NewLayer) → length (graft_node_refs ns f).0 ≡ length ns
unfolding graft_node_refs
length_refs [] f = refl
length_refs (n ∷ ns) f = ap suc (length_refs ns (graft_node_ref n f).1)

-- ---- the nodes of the source

-- the nodes with their trees
unfoldable pub shown_of : List ℕ → List ℕ → List SourceNode → List ShownNode
shown_of t d [] = []
shown_of t d (n ∷ ns) = shown_node (source_store t d) n ∷ shown_of t d ns

pub shown_map : (t d : List ℕ) (ns : List SourceNode) → shown_of t d ns ≡ map (shown_node (source_store t d)) ns
unfolding shown_of
shown_map t d [] = refl
shown_map t d (n ∷ ns) = ap (λ (l : List ShownNode). shown_node (source_store t d) n ∷ l) (shown_map t d ns)

pub shown_append : (t d : List ℕ) (xs ys : List SourceNode) → shown_of t d (xs ++ ys) ≡ shown_of t d xs ++ shown_of t d ys
unfolding shown_of
shown_append t d [] ys = refl
shown_append t d (n ∷ ns) ys = ap (λ (l : List ShownNode). shown_node (source_store t d) n ∷ l) (shown_append t d ns ys)

pub shown_long : (t d : List ℕ) (ns : List SourceNode) → length (shown_of t d ns) ≡ length ns
unfolding shown_of
shown_long t d [] = refl
shown_long t d (n ∷ ns) = let e = shown_long t d ns in omega (arith, e)

pub shown_nodes_grow : (t d : List ℕ) (st : Store) → Source t d st → (ns : List SourceNode) (f : NewLayer) → all (node_in st) ns ≡ true → Grew f (graft_node_refs (shown_of t d ns) f).1 (add_all (node_adds t st) ns)
shown_nodes_grow t d st s ns f h =
    rw (nodes_agree t st s.fit.stored (drop (word_at t 1 + word_at t 5) d) s.segments s.contents ns h, shown_map t d ns)
    (node_refs_grow (map (shown_node (source_store t d)) ns) f)

-- the nodes that are grafted where the walk is at m
abbrev pub refs_from : Plan → List ℕ → List ℕ → Mark → List ShownNode → With (List SourceNode)
refs_from p work strs m ns = graft_node_refs ns (layer_from p work strs m)

-- the grafted nodes, their records from a byte behind the new segments on
abbrev pub NodesTold : List ℕ → List ℕ → Plan → Mark → ℕ → List ℕ → List ℕ → List ℕ → List ℕ → List ℕ → List ℕ → Mark → Bool → With (List SourceNode) → Type 0
NodesTold t d = ItemsTold t d node_codec
