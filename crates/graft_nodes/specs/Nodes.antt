-- One node: its words, those of its body, of level 33, or none where its class is 2 or 3; and its record.
use Rattle.std.specs.Prelude.{◌≡◌, Option, Some, None, ℕ, ltb, ◌+◌, true, false, replicate}
use Rattle.std.proofs.Math.Path.{refl, ap}
use Rattle.std.proofs.Common.{sym, ◌∙◌}
use Rattle.std.proofs.lemmas.Option.{same_Some}
use mathlib.Core.List.{List, [], ◌∷◌}
use Rattle.model.specs.Bytes.{byte_at}
use Rattle.model.specs.Types.{SourceNode}
use Rattle.model.specs.Tape.{Field, fields_of, node_fields, record_at, operands_at, record_bytes, node_codec}
use Rattle.model.specs.Tree.{show_node, shown_node, show_with, show_fields}
use Rattle.model.specs.Graft.{NewLayer, With, graft_node, graft_node_ref, graft_node_refs, graft_fields}
use Rattle.wire.specs.Overwrite.{overwrite}
use Rattle.span.specs.Values.{span_of}
use Rattle.records.specs.Values.{body_at, node_body, source_node_of}
use Rattle.records.specs.declared.SourceNode.{SourceNode as SourceNodeRead}
use Rattle.store.specs.declared.Store.{Store}
use Rattle.ids.specs.Tests.{body_in, node_in, node_answer_lem}
use Rattle.sizes.specs.Order.{fields_in_order}
use Rattle.sizes.specs.InPlace.{node_adds, body_adds}
use Rattle.sizes.specs.Shown.{show_inner}
use Rattle.graft.specs.Grafted.{layer_from}
use Rattle.graft.specs.Named.{source_store}
use Rattle.graft.specs.Walk.{Ready, WordsTold, body_from}
use Rattle.graft.specs.Answers.{told_none, item_refused, item_made}
use Rattle.graft.specs.NodeItems.{shown_of, refs_from, NodesTold}
use Rattle.graft.specs.declared.Plan.{Plan}
use Rattle.graft.specs.declared.Mark.{Mark}

-- Section 5. The words of a grafted node.
unfoldable pub node_words : List ℕ → List ℕ → SourceNode → NewLayer → With (List ℕ)
node_words t d n f = let r = graft_node (show_node (source_store t d) n) f in (r.0.words, r.1)

module _ (t d : List ℕ) (st : Store) (at : ℕ) where
  abbrev found : SourceNode
  found = record_at node_codec t at

  class_is : found.class ≡ byte_at t (at + 1)
  unfolding record_at operands_at node_codec
  class_is = refl

  module _ {p : Plan} {m : Mark} {out work strs : List ℕ} (y : Ready t d p m out work strs (node_adds t st found)) where
    pub node_bare : ltb (byte_at t (at + 1)) 2 ≡ false → WordsTold t d p m out work strs out work strs m (Some (replicate 6 0)) (node_words t d found (layer_from p work strs m))
    unfolding node_words node_fields show_node show_with show_fields graft_node graft_fields
    node_bare h = rw (class_is, h) (record { told = told_none y; words = λ ws o. sym (same_Some (replicate 6 0) ws o) })

    module _ (h : ltb (byte_at t (at + 1)) 2 ≡ true) where
      pub node_ready : Ready t d p m out work strs (body_adds 33 t st (body_at t (at + 15)))
      unfolding node_adds node_fields body_adds
      node_ready =
          let z : Ready t d p m out work strs (body_adds 33 t st found.body) = rw (class_is, h) at y in
          rw (node_body t at) z

      pub node_known : node_in st found ≡ true → body_in st (body_at t (at + 15)) ≡ true
      node_known k = node_answer_lem st t at h refl ∙ k

      whole : node_words t d found (layer_from p work strs m) ≡ body_from 33 t d p work strs m (body_at t (at + 15)) 6
      unfolding node_words node_fields show_node show_with graft_node body_from show_inner fields_of
      whole =
          rw (class_is, h, ← node_body t at)
          (ap (λ (fs : List Field). graft_fields (show_fields (show_inner 33 (source_store t d)) (source_store t d) (body_at t (at + 15)) fs) (replicate 6 0) (layer_from p work strs m))
          (sym (fields_in_order (body_at t (at + 15)).kind (body_at t (at + 15)).tag)))

      pub node_told : {out' work' strs' : List ℕ} {r : Mark} {ws : Option (List ℕ)} → WordsTold t d p m out work strs out' work' strs' r ws (body_from 33 t d p work strs m (body_at t (at + 15)) 6)
          → WordsTold t d p m out work strs out' work' strs' r ws (node_words t d found (layer_from p work strs m))
      node_told x = rw whole x

  -- ---- its record

  module _ (p : Plan) (m : Mark) (to : ℕ) (out work strs : List ℕ) where
    -- the node with its grafted words
    abbrev ref : SourceNode
    ref = (graft_node_ref (shown_node (source_store t d) found) (layer_from p work strs m)).0

    one_ref : refs_from p work strs m (shown_of t d (found ∷ [])) ≡ (ref ∷ [], (node_words t d found (layer_from p work strs m)).1)
    unfolding shown_of graft_node_refs graft_node_ref shown_node node_words
    one_ref = refl

    pub ref_refused : {out₁ work₁ strs₁ : List ℕ} {r : Mark} → WordsTold t d p m out work strs out₁ work₁ strs₁ r None (node_words t d found (layer_from p work strs m))
        → NodesTold t d p m to out work strs out₁ work₁ strs₁ r false (refs_from p work strs m (shown_of t d (found ∷ [])))
    ref_refused x = item_refused node_codec p m to out work strs x.told one_ref refl

    -- the node as it was read, with those words
    module _ (n : SourceNodeRead) (e : source_node_of n ≡ found) where
      abbrev with_own : List ℕ → SourceNode
      with_own ws = record {
        class = n.class;
        inline = n.inline;
        source_span = span_of n.source_span;
        normalized_offset = n.normalized_offset.0;
        body = record { kind = n.body.kind; tag = n.body.tag; plain1 = n.body.plain1; plain2 = n.body.plain2; words = ws };
      }

      own_is : (graft_node_ref (shown_node (source_store t d) (source_node_of n)) (layer_from p work strs m)).0 ≡ with_own (node_words t d (source_node_of n) (layer_from p work strs m)).0
      unfolding graft_node_ref shown_node node_words show_node show_with graft_node
      own_is = refl

      pub ref_made : {out₁ work₁ strs₁ : List ℕ} {r : Mark} (own : List ℕ) → WordsTold t d p m out work strs out₁ work₁ strs₁ r (Some own) (node_words t d found (layer_from p work strs m)) → {out₂ : List ℕ}
          → out₂ ≡ overwrite out₁ to (record_bytes node_codec (with_own own))
          → NodesTold t d p m to out work strs out₂ work₁ strs₁ r true (refs_from p work strs m (shown_of t d (found ∷ [])))
      ref_made own x w =
          let same : with_own own ≡ ref =
          ap with_own (x.words own refl ∙ ap (λ (y : SourceNode). (node_words t d y (layer_from p work strs m)).0) (sym e)) ∙ sym own_is
          ∙ ap (λ (y : SourceNode). (graft_node_ref (shown_node (source_store t d) y) (layer_from p work strs m)).0) e in
          item_made node_codec p m to out work strs x.told one_ref (with_own own) same w
