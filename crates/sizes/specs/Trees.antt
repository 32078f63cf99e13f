-- Section 5: how many contents, segments and calls of `intern` the graft of a tree adds, and that it adds exactly these.
use Rattle.std.specs.Prelude.{◌≡◌, refl, ℕ, suc, ◌+◌, List, [], ◌∷◌, length, set, replicate}
use Rattle.std.proofs.Common.{ap, arith, length-append}
use Rattle.model.specs.Limits.{no_string}
use Rattle.model.specs.Types.{Content, Segment}
use Rattle.model.specs.Tree.{Tree, Tree.tree, Fields, Fields.done, Fields.text, Fields.absent, Fields.contents, Fields.segments, ShownNode}
use Rattle.model.specs.Tree.{Contents, Contents.no_content, Contents.plain, Contents.segmented, Segments, Segments.no_segment, Segments.segment}
use Rattle.model.specs.Graft.{NewLayer, graft_str, push_contents, push_segments, graft_node, graft_fields, graft_contents, graft_segments, graft_node_ref, graft_node_refs}
use Rattle.intern.specs.Calls.{calls_one}
use Rattle.sizes.specs.Added.{Added, nothing, one_call, new_contents, new_segments, add, add_all}

-- ---- definitions

unfoldable pub contents_length : Contents → ℕ
contents_length no_content = 0
contents_length (plain s cs) = suc (contents_length cs)
contents_length (segmented ss cs) = suc (contents_length cs)

unfoldable pub segments_length : Segments → ℕ
segments_length no_segment = 0
segments_length (segment tag level t ss) = suc (segments_length ss)

-- a run: its own items, and what is pushed before them
abbrev pub run_of_contents : ℕ → Added → Added
run_of_contents n inner = add (new_contents n) inner

abbrev pub run_of_segments : ℕ → Added → Added
run_of_segments n inner = add (new_segments n) inner

-- Section 5. Node, content and segment call each other down the levels.
unfoldable mutual
  -- `graft_node`
  pub tree_size : Tree → Added
  tree_size (tree kind tag plain1 plain2 fs) = fields_size fs

  -- a string is one call, a missing one none
  pub fields_size : Fields → Added
  fields_size done = nothing
  fields_size (text i s fs) = add one_call (fields_size fs)
  fields_size (absent i fs) = fields_size fs
  fields_size (contents i cs fs) = add (run_of_contents (contents_length cs) (contents_size cs)) (fields_size fs)
  fields_size (segments i ss fs) = add (run_of_segments (segments_length ss) (segments_size ss)) (fields_size fs)

  -- `graft_content` of each: what is pushed before the run itself
  pub contents_size : Contents → Added
  contents_size no_content = nothing
  contents_size (plain s cs) = add one_call (contents_size cs)
  contents_size (segmented ss cs) = add (run_of_segments (segments_length ss) (segments_size ss)) (contents_size cs)

  -- `graft_segment` of each: what is pushed before the run itself
  pub segments_size : Segments → Added
  segments_size no_segment = nothing
  segments_size (segment tag level t ss) = add (tree_size t) (segments_size ss)

-- a run of contents or of segments with what is pushed before it
unfoldable pub content_run_size : Contents → Added
content_run_size cs = run_of_contents (contents_length cs) (contents_size cs)

unfoldable pub segment_run_size : Segments → Added
segment_run_size ss = run_of_segments (segments_length ss) (segments_size ss)

-- `graft_node_ref` of each
unfoldable pub nodes_size : List ShownNode → Added
nodes_size ns = add_all (λ (n : ShownNode). tree_size n.body) ns

-- ---- that grafting adds exactly these

-- g is f with so much more
pub record Grew (f g : NewLayer) (a : Added) : Type 0 where
  pub contents : length g.contents ≡ length f.contents + a.contents
  pub segments : length g.segments ≡ length f.segments + a.segments
  pub calls : g.interner.stats.calls ≡ f.interner.stats.calls + a.calls

pub grew_none : (f : NewLayer) → Grew f f nothing
grew_none f = record { contents = omega arith; segments = omega arith; calls = omega arith }

grew_add : {f g h : NewLayer} {a b : Added} → Grew f g a → Grew g h b → Grew f h (add a b)
unfolding add
grew_add x y = record {
  contents = omega (arith, x.contents, y.contents);
  segments = omega (arith, x.segments, y.segments);
  calls = omega (arith, x.calls, y.calls);
}

-- a run is pushed behind what is pushed before it
grew_behind : {f g h : NewLayer} {a b : Added} → Grew f g a → Grew g h b → Grew f h (add b a)
unfolding add
grew_behind x y = record {
  contents = omega (arith, x.contents, y.contents);
  segments = omega (arith, x.segments, y.segments);
  calls = omega (arith, x.calls, y.calls);
}

pub grew_str : (s : List ℕ) (f : NewLayer) → Grew f (graft_str s f).1 one_call
unfolding graft_str
grew_str s f = record { contents = omega arith; segments = omega arith; calls = calls_one f.interner s }

grew_contents : (cs : List Content) (f : NewLayer) → Grew f (push_contents cs f).1 (new_contents (length cs))
unfolding push_contents
grew_contents cs f = record { contents = length-append f.contents cs; segments = omega arith; calls = omega arith }

grew_segments : (ss : List Segment) (f : NewLayer) → Grew f (push_segments ss f).1 (new_segments (length ss))
unfolding push_segments
grew_segments ss f = record { contents = omega arith; segments = length-append f.segments ss; calls = omega arith }

-- how many items a graft of a run hands back
pub length_contents : (cs : Contents) (f : NewLayer) → length (graft_contents cs f).0 ≡ contents_length cs
unfolding graft_contents contents_length
length_contents no_content f = refl
length_contents (plain s cs) f = ap suc (length_contents cs (graft_str s f).1)
length_contents (segmented ss cs) f = let r = graft_segments ss f in ap suc (length_contents cs (push_segments r.0 r.1).1)

pub length_segments : (ss : Segments) (f : NewLayer) → length (graft_segments ss f).0 ≡ segments_length ss
unfolding graft_segments segments_length
length_segments no_segment f = refl
length_segments (segment tag level t ss) f = ap suc (length_segments ss (graft_node t f).1)

-- a run that was pushed
pushed_contents : (cs : Contents) (f : NewLayer) → Grew f (graft_contents cs f).1 (contents_size cs)
    → (let r = graft_contents cs f in Grew f (push_contents r.0 r.1).1 (run_of_contents (contents_length cs) (contents_size cs)))
pushed_contents cs f x = let r = graft_contents cs f in rw (← length_contents cs f) (grew_behind x (grew_contents r.0 r.1))

pushed_segments : (ss : Segments) (f : NewLayer) → Grew f (graft_segments ss f).1 (segments_size ss)
    → (let r = graft_segments ss f in Grew f (push_segments r.0 r.1).1 (run_of_segments (segments_length ss) (segments_size ss)))
pushed_segments ss f x = let r = graft_segments ss f in rw (← length_segments ss f) (grew_behind x (grew_segments r.0 r.1))

mutual
  unfolding graft_node tree_size

  pub node_grows : (t : Tree) (f : NewLayer) → Grew f (graft_node t f).1 (tree_size t)
  node_grows (tree kind tag plain1 plain2 fs) f = fields_grow fs (replicate 6 0) f

  pub fields_grow : (fs : Fields) (ws : List ℕ) (f : NewLayer) → Grew f (graft_fields fs ws f).1 (fields_size fs)
  fields_grow done ws f = grew_none f
  fields_grow (text i s fs) ws f = let r = graft_str s f in grew_add (grew_str s f) (fields_grow fs (set ws i r.0) r.1)
  fields_grow (absent i fs) ws f = fields_grow fs (set ws i no_string) f
  fields_grow (contents i cs fs) ws f =
      let r = graft_contents cs f in
      let at = push_contents r.0 r.1 in
      grew_add (pushed_contents cs f (contents_grow cs f)) (fields_grow fs (set (set ws i at.0) (i + 1) (length r.0)) at.1)
  fields_grow (segments i ss fs) ws f =
      let r = graft_segments ss f in
      let at = push_segments r.0 r.1 in
      grew_add (pushed_segments ss f (segments_grow ss f)) (fields_grow fs (set (set ws i at.0) (i + 1) (length r.0)) at.1)

  -- up to where the run itself is pushed
  pub contents_grow : (cs : Contents) (f : NewLayer) → Grew f (graft_contents cs f).1 (contents_size cs)
  contents_grow no_content f = grew_none f
  contents_grow (plain s cs) f = grew_add (grew_str s f) (contents_grow cs (graft_str s f).1)
  contents_grow (segmented ss cs) f =
      let r = graft_segments ss f in
      grew_add (pushed_segments ss f (segments_grow ss f)) (contents_grow cs (push_segments r.0 r.1).1)

  pub segments_grow : (ss : Segments) (f : NewLayer) → Grew f (graft_segments ss f).1 (segments_size ss)
  segments_grow no_segment f = grew_none f
  segments_grow (segment tag level t ss) f = grew_add (node_grows t f) (segments_grow ss (graft_node t f).1)

-- a run, pushed
pub content_run_grows : (cs : Contents) (f : NewLayer) → (let r = graft_contents cs f in Grew f (push_contents r.0 r.1).1 (content_run_size cs))
unfolding content_run_size
content_run_grows cs f = pushed_contents cs f (contents_grow cs f)

pub segment_run_grows : (ss : Segments) (f : NewLayer) → (let r = graft_segments ss f in Grew f (push_segments r.0 r.1).1 (segment_run_size ss))
unfolding segment_run_size
segment_run_grows ss f = pushed_segments ss f (segments_grow ss f)

pub node_refs_grow : (ns : List ShownNode) (f : NewLayer) → Grew f (graft_node_refs ns f).1 (nodes_size ns)
unfolding graft_node_refs graft_node_ref nodes_size add_all
node_refs_grow [] f = grew_none f
node_refs_grow (n ∷ ns) f = grew_add (node_grows n.body f) (node_refs_grow ns (graft_node_ref n f).1)
