-- Lists in two parts: the model's graft of one part behind the other.
use Rattle.std.specs.Prelude.{◌≡◌, ℕ, ◌+◌, set, eqb}
use Rattle.std.proofs.Math.Path.{refl, ap}
use mathlib.Core.List.{List, [], ◌∷◌, ◌++◌}
use Rattle.std.proofs.Math.ListN.{length}
use Rattle.model.specs.Limits.{no_string}
use Rattle.model.specs.Types.{Body, Content, Segment}
use Rattle.model.specs.Store.{NodeStore, resolve_str, resolve_content_range, resolve_seg_range}
use Rattle.model.specs.WellFormed.{word_of}
use Rattle.model.specs.Tape.{Field, Field.str, Field.opt_str, Field.content_range, Field.seg_range}
use Rattle.model.specs.Tree.{Tree, show_segments, show_contents, show_fields}
use Rattle.model.specs.Graft.{NewLayer, With, graft_str, push_contents, push_segments, graft_node, graft_fields, graft_contents, graft_segments}
use Rattle.facts.specs.Truth.{by_bool}

module _ (show : Body → Tree) (s : NodeStore) where
  pub fields_then : (b : Body) (xs ys : List Field) (ws : List ℕ) (f : NewLayer)
      → graft_fields (show_fields show s b (xs ++ ys)) ws f ≡ (let r = graft_fields (show_fields show s b xs) ws f in graft_fields (show_fields show s b ys) r.0 r.1)
  unfolding show_fields graft_fields
  fields_then b [] ys ws f = refl
  fields_then b (str i ∷ xs) ys ws f = let r = graft_str (resolve_str s (word_of b i)) f in fields_then b xs ys (set ws i r.0) r.1
  fields_then b (opt_str i ∷ xs) ys ws f =
      by_bool (eqb (word_of b i) no_string)
      (λ e. rw e (fields_then b xs ys (set ws i no_string) f))
      (λ e. rw e (let r = graft_str (resolve_str s (word_of b i)) f in fields_then b xs ys (set ws i r.0) r.1))
  fields_then b (content_range i ∷ xs) ys ws f =
      let r = graft_contents (show_contents show s (resolve_content_range s (word_of b i) (word_of b (i + 1)))) f in
      let at = push_contents r.0 r.1 in
      fields_then b xs ys (set (set ws i at.0) (i + 1) (length r.0)) at.1
  fields_then b (seg_range i ∷ xs) ys ws f =
      let r = graft_segments (show_segments show (resolve_seg_range s (word_of b i) (word_of b (i + 1)))) f in
      let at = push_segments r.0 r.1 in
      fields_then b xs ys (set (set ws i at.0) (i + 1) (length r.0)) at.1

  pub contents_parts : (xs ys : List Content) (f : NewLayer)
      → graft_contents (show_contents show s (xs ++ ys)) f
      ≡ (let r = graft_contents (show_contents show s xs) f in let q = graft_contents (show_contents show s ys) r.1 in (r.0 ++ q.0, q.1))
  unfolding show_contents graft_contents
  contents_parts [] ys f = refl
  contents_parts (x ∷ xs) ys f =
      by_bool (eqb x.tag 0)
      (λ e. rw e (
      let r = graft_str (resolve_str s x.first) f in
      let c : Content = record { tag = 0; first = r.0; second = 0 } in
      ap (λ (a : With (List Content)). (c ∷ a.0, a.1)) (contents_parts xs ys r.1)))
      (λ e. rw e (
      let r = graft_segments (show_segments show (resolve_seg_range s x.first x.second)) f in
      let at = push_segments r.0 r.1 in
      let c : Content = record { tag = 1; first = at.0; second = length r.0 } in
      ap (λ (a : With (List Content)). (c ∷ a.0, a.1)) (contents_parts xs ys at.1)))

  pub segments_parts : (xs ys : List Segment) (f : NewLayer)
      → graft_segments (show_segments show (xs ++ ys)) f
      ≡ (let r = graft_segments (show_segments show xs) f in let q = graft_segments (show_segments show ys) r.1 in (r.0 ++ q.0, q.1))
  unfolding show_segments graft_segments
  segments_parts [] ys f = refl
  segments_parts (x ∷ xs) ys f =
      let r = graft_node (show x.body) f in
      let one : Segment = record { tag = x.tag; level = x.level; body = r.0 } in
      ap (λ (a : With (List Segment)). (one ∷ a.0, a.1)) (segments_parts xs ys r.1)
