-- Wish 7: the interner of a graft is the one that its list of calls makes, whatever layer it is grafted into.
use Rattle.std.specs.Prelude.{◌≡◌, refl, ℕ, ◌+◌, List, [], ◌∷◌, ◌++◌, length, set, replicate}
use Rattle.std.proofs.Common.{sym, ap, ◌∙◌}
use Rattle.model.specs.Limits.{no_string}
use Rattle.model.specs.Intern.{StrInterner, intern, intern_all}
use Rattle.model.specs.Tree.{Tree, Tree.tree, Fields, Fields.done, Fields.text, Fields.absent, Fields.contents, Fields.segments, ShownNode}
use Rattle.model.specs.Tree.{Contents, Contents.no_content, Contents.plain, Contents.segmented, Segments, Segments.no_segment, Segments.segment}
use Rattle.model.specs.Graft.{NewLayer, graft_str, push_contents, push_segments, graft_node, graft_fields, graft_contents, graft_segments, graft_node_ref, graft_node_refs}
use Rattle.model.specs.Graft.{tree_calls, fields_calls, contents_calls, segments_calls, graft_calls}

all_behind : (t : StrInterner) (xs ys : List (List ℕ)) → intern_all t (xs ++ ys) ≡ intern_all (intern_all t xs) ys
unfolding intern_all
all_behind t [] ys = refl
all_behind t (x ∷ xs) ys = all_behind (intern t x).state xs ys

-- a part of the calls, then the rest
then_calls : (t : StrInterner) {u v : StrInterner} (xs ys : List (List ℕ)) → u ≡ intern_all t xs → v ≡ intern_all u ys → v ≡ intern_all t (xs ++ ys)
then_calls t xs ys e f = f ∙ ap (λ (w : StrInterner). intern_all w ys) e ∙ sym (all_behind t xs ys)

mutual
  unfolding graft_node tree_calls intern_all graft_str push_contents push_segments

  node_calls : (t : Tree) (f : NewLayer) → (graft_node t f).1.interner ≡ intern_all f.interner (tree_calls t)
  node_calls (tree kind tag plain1 plain2 fs) f = fields_calls_lem fs (replicate 6 0) f

  fields_calls_lem : (fs : Fields) (ws : List ℕ) (f : NewLayer) → (graft_fields fs ws f).1.interner ≡ intern_all f.interner (fields_calls fs)
  fields_calls_lem done ws f = refl
  fields_calls_lem (text i s fs) ws f = let r = graft_str s f in fields_calls_lem fs (set ws i r.0) r.1
  fields_calls_lem (absent i fs) ws f = fields_calls_lem fs (set ws i no_string) f
  fields_calls_lem (contents i cs fs) ws f =
      let r = graft_contents cs f in
      let at = push_contents r.0 r.1 in
      then_calls f.interner (contents_calls cs) (fields_calls fs) (contents_calls_lem cs f) (fields_calls_lem fs (set (set ws i at.0) (i + 1) (length r.0)) at.1)
  fields_calls_lem (segments i ss fs) ws f =
      let r = graft_segments ss f in
      let at = push_segments r.0 r.1 in
      then_calls f.interner (segments_calls ss) (fields_calls fs) (segments_calls_lem ss f) (fields_calls_lem fs (set (set ws i at.0) (i + 1) (length r.0)) at.1)

  contents_calls_lem : (cs : Contents) (f : NewLayer) → (graft_contents cs f).1.interner ≡ intern_all f.interner (contents_calls cs)
  contents_calls_lem no_content f = refl
  contents_calls_lem (plain s cs) f = contents_calls_lem cs (graft_str s f).1
  contents_calls_lem (segmented ss cs) f =
      let r = graft_segments ss f in
      then_calls f.interner (segments_calls ss) (contents_calls cs) (segments_calls_lem ss f) (contents_calls_lem cs (push_segments r.0 r.1).1)

  segments_calls_lem : (ss : Segments) (f : NewLayer) → (graft_segments ss f).1.interner ≡ intern_all f.interner (segments_calls ss)
  segments_calls_lem no_segment f = refl
  segments_calls_lem (segment tag level t ss) f = then_calls f.interner (tree_calls t) (segments_calls ss) (node_calls t f) (segments_calls_lem ss (graft_node t f).1)

-- Wish 7. The list is the one that grafting makes.
pub graft_calls_lem : (ns : List ShownNode) (f : NewLayer) → (graft_node_refs ns f).1.interner ≡ intern_all f.interner (graft_calls ns)
unfolding graft_node_refs graft_node_ref graft_calls intern_all
graft_calls_lem [] f = refl
graft_calls_lem (n ∷ ns) f = then_calls f.interner (tree_calls n.body) (graft_calls ns) (node_calls n.body f) (graft_calls_lem ns (graft_node_ref n f).1)
