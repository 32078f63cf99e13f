-- What a graft pushes does not depend on what the layer holds already, but for its counts: from a layer with empty pools whose
-- numbers begin behind those of f, the same answer and the same items come as from f.
use Rattle.std.specs.Prelude.{◌≡◌, refl, ℕ, ◌+◌, true, List, [], ◌∷◌, ◌++◌, length, set, replicate}
use Rattle.std.proofs.Common.{sym, ap, ap₂, ◌∙◌, arith, append_assoc, append-nil, length-append}
use Rattle.model.specs.Limits.{no_string}
use Rattle.model.specs.Types.{Content, Segment}
use Rattle.model.specs.Tree.{Tree, Tree.tree, Fields, Fields.done, Fields.text, Fields.absent, Fields.contents, Fields.segments}
use Rattle.model.specs.Tree.{Contents, Contents.no_content, Contents.plain, Contents.segmented, Segments, Segments.no_segment, Segments.segment}
use Rattle.interner.specs.State.{has_room}
use Rattle.intern.specs.Calls.{room_before}
use Rattle.model.specs.Graft.{NewLayer, With, graft_str, push_contents, push_segments, graft_node, graft_fields, graft_contents, graft_segments}

-- the layer with empty pools, whose numbers begin behind f's
abbrev pub rebased : NewLayer → NewLayer
rebased f = record {
  string_offset = f.string_offset;
  content_offset = f.content_offset + length f.contents;
  segment_offset = f.segment_offset + length f.segments;
  interner = f.interner;
  contents = [];
  segments = [];
}

-- f with what g has more
abbrev pub behind : NewLayer → NewLayer → NewLayer
behind f g = record {
  string_offset = f.string_offset;
  content_offset = f.content_offset;
  segment_offset = f.segment_offset;
  interner = g.interner;
  contents = f.contents ++ g.contents;
  segments = f.segments ++ g.segments;
}

pub record SameOffsets (f g : NewLayer) : Type 0 where
  pub strings : g.string_offset ≡ f.string_offset
  pub contents : g.content_offset ≡ f.content_offset
  pub segments : g.segment_offset ≡ f.segment_offset

pub record Steps {A : Type 0} (run : NewLayer → With A) : Type 0 where
  pub offsets : (f : NewLayer) → SameOffsets f (run f).1
  pub answer : (f : NewLayer) → (run f).0 ≡ (run (rebased f)).0
  pub layer : (f : NewLayer) → (run f).1 ≡ behind f (run (rebased f)).1
  pub room : (size base : ℕ) (f : NewLayer) → has_room size base (run f).1.interner ≡ true → has_room size base f.interner ≡ true

-- a layer is the same if its parts are
same_layer : {f g : NewLayer} → f.string_offset ≡ g.string_offset → f.content_offset ≡ g.content_offset → f.segment_offset ≡ g.segment_offset → f.interner ≡ g.interner
    → f.contents ≡ g.contents → f.segments ≡ g.segments → f ≡ g
same_layer a b d e x y = λ i. record { string_offset = a i; content_offset = b i; segment_offset = d i; interner = e i; contents = x i; segments = y i }

rebased_behind : (f g : NewLayer) → SameOffsets (rebased f) g → rebased (behind f g) ≡ rebased g
rebased_behind f g o =
    same_layer (sym o.strings)
    (let n = length-append f.contents g.contents in omega (arith, n, o.contents))
    (let n = length-append f.segments g.segments in omega (arith, n, o.segments))
    refl refl refl

behind_behind : (f g h : NewLayer) → behind (behind f g) h ≡ behind f (behind g h)
behind_behind f g h = same_layer refl refl refl refl (append_assoc f.contents g.contents h.contents) (append_assoc f.segments g.segments h.segments)

pub steps_return : {A : Type 0} (a : A) → Steps (λ f. (a, f))
steps_return a = record {
  offsets = λ f. record { strings = refl; contents = refl; segments = refl };
  answer = λ f. refl;
  layer = λ f. same_layer refl refl refl refl (sym (append-nil f.contents)) (sym (append-nil f.segments));
  room = λ size base f h. h;
}

module _ {A B : Type 0} (run : NewLayer → With A) (next : A → NewLayer → With B) (x : Steps run) (y : (a : A) → Steps (next a)) where
  moved : (f : NewLayer) → next (run f).0 (run f).1 ≡ next (run (rebased f)).0 (behind f (run (rebased f)).1)
  moved f = ap₂ (λ (a : A) (l : NewLayer). next a l) (x.answer f) (x.layer f)

  again : (f : NewLayer) → next (run (rebased f)).0 (rebased (behind f (run (rebased f)).1)) ≡ next (run (rebased f)).0 (rebased (run (rebased f)).1)
  again f = ap (next (run (rebased f)).0) (rebased_behind f (run (rebased f)).1 (x.offsets (rebased f)))

  pub steps_then : Steps (λ f. next (run f).0 (run f).1)
  steps_then = record {
    offsets = λ f.
        let o = x.offsets f in
        let p = (y (run f).0).offsets (run f).1 in
        record { strings = p.strings ∙ o.strings; contents = p.contents ∙ o.contents; segments = p.segments ∙ o.segments };
    answer = λ f.
        let a = (run (rebased f)).0 in
        let g = (run (rebased f)).1 in
        ap (λ (r : With B). r.0) (moved f) ∙ (y a).answer (behind f g) ∙ ap (λ (r : With B). r.0) (again f) ∙ sym ((y a).answer g);
    layer = λ f.
        let a = (run (rebased f)).0 in
        let g = (run (rebased f)).1 in
        ap (λ (r : With B). r.1) (moved f) ∙ (y a).layer (behind f g) ∙ ap (λ (r : With B). behind (behind f g) r.1) (again f)
        ∙ behind_behind f g (next a (rebased g)).1 ∙ sym (ap (behind f) ((y a).layer g));
    room = λ size base f h. x.room size base f ((y (run f).0).room size base (run f).1 h);
  }

-- ---- the steps of a graft

pub steps_str : (s : List ℕ) → Steps (graft_str s)
unfolding graft_str
steps_str s = record {
  offsets = λ f. record { strings = refl; contents = refl; segments = refl };
  answer = λ f. refl;
  layer = λ f. same_layer refl refl refl refl (sym (append-nil f.contents)) (sym (append-nil f.segments));
  room = λ size base f h. room_before size base f.interner s h;
}

pub steps_contents : (cs : List Content) → Steps (push_contents cs)
unfolding push_contents
steps_contents cs = record {
  offsets = λ f. record { strings = refl; contents = refl; segments = refl };
  answer = λ f. omega arith;
  layer = λ f. same_layer refl refl refl refl refl (sym (append-nil f.segments));
  room = λ size base f h. h;
}

pub steps_segments : (ss : List Segment) → Steps (push_segments ss)
unfolding push_segments
steps_segments ss = record {
  offsets = λ f. record { strings = refl; contents = refl; segments = refl };
  answer = λ f. omega arith;
  layer = λ f. same_layer refl refl refl refl (sym (append-nil f.contents)) refl;
  room = λ size base f h. h;
}

-- a run that is pushed: its start, with its items
abbrev pub content_run : Contents → NewLayer → With (ℕ × ℕ)
content_run cs f = let r = graft_contents cs f in let at = push_contents r.0 r.1 in ((at.0, length r.0), at.1)

abbrev pub segment_run : Segments → NewLayer → With (ℕ × ℕ)
segment_run ss f = let r = graft_segments ss f in let at = push_segments r.0 r.1 in ((at.0, length r.0), at.1)

mapped : {A B : Type 0} (h : A → B) (run : NewLayer → With A) → Steps run → Steps (λ f. (h (run f).0, (run f).1))
mapped h run x = steps_then run (λ a f. (h a, f)) x (λ a. steps_return (h a))

run_contents : (cs : Contents) → Steps (graft_contents cs) → Steps (content_run cs)
run_contents cs x =
    steps_then (graft_contents cs) (λ items f. let at = push_contents items f in ((at.0, length items), at.1)) x
    (λ items. mapped (λ n. (n, length items)) (push_contents items) (steps_contents items))

run_segments : (ss : Segments) → Steps (graft_segments ss) → Steps (segment_run ss)
run_segments ss x =
    steps_then (graft_segments ss) (λ items f. let at = push_segments items f in ((at.0, length items), at.1)) x
    (λ items. mapped (λ n. (n, length items)) (push_segments items) (steps_segments items))

mutual
  unfolding graft_node

  pub steps_node : (t : Tree) → Steps (graft_node t)
  steps_node (tree kind tag plain1 plain2 fs) =
      mapped (λ (ws : List ℕ). record { kind = kind; tag = tag; plain1 = plain1; plain2 = plain2; words = ws }) (graft_fields fs (replicate 6 0)) (steps_fields fs (replicate 6 0))

  pub steps_fields : (fs : Fields) (ws : List ℕ) → Steps (graft_fields fs ws)
  steps_fields done ws = steps_return ws
  steps_fields (text i s fs) ws = steps_then (graft_str s) (λ id. graft_fields fs (set ws i id)) (steps_str s) (λ id. steps_fields fs (set ws i id))
  steps_fields (absent i fs) ws = steps_fields fs (set ws i no_string)
  steps_fields (contents i cs fs) ws =
      steps_then (content_run cs) (λ r. graft_fields fs (set (set ws i r.0) (i + 1) r.1)) (run_contents cs (steps_each cs)) (λ r. steps_fields fs (set (set ws i r.0) (i + 1) r.1))
  steps_fields (segments i ss fs) ws =
      steps_then (segment_run ss) (λ r. graft_fields fs (set (set ws i r.0) (i + 1) r.1)) (run_segments ss (steps_every ss)) (λ r. steps_fields fs (set (set ws i r.0) (i + 1) r.1))

  pub steps_each : (cs : Contents) → Steps (graft_contents cs)
  steps_each no_content = steps_return []
  steps_each (plain s cs) =
      steps_then (graft_str s) (λ id f. let rest = graft_contents cs f in (record { tag = 0; first = id; second = 0 } ∷ rest.0, rest.1)) (steps_str s)
      (λ id. mapped (λ items. record { tag = 0; first = id; second = 0 } ∷ items) (graft_contents cs) (steps_each cs))
  steps_each (segmented ss cs) =
      steps_then (segment_run ss) (λ r f. let rest = graft_contents cs f in (record { tag = 1; first = r.0; second = r.1 } ∷ rest.0, rest.1)) (run_segments ss (steps_every ss))
      (λ r. mapped (λ items. record { tag = 1; first = r.0; second = r.1 } ∷ items) (graft_contents cs) (steps_each cs))

  pub steps_every : (ss : Segments) → Steps (graft_segments ss)
  steps_every no_segment = steps_return []
  steps_every (segment tag level t ss) =
      steps_then (graft_node t) (λ b f. let rest = graft_segments ss f in (record { tag = tag; level = level; body = b } ∷ rest.0, rest.1)) (steps_node t)
      (λ b. mapped (λ items. record { tag = tag; level = level; body = b } ∷ items) (graft_segments ss) (steps_every ss))

-- ---- what follows: a graft from any layer, by what it pushes

pub node_pushes : (t : Tree) (f : NewLayer) → graft_node t f ≡ ((graft_node t (rebased f)).0, behind f (graft_node t (rebased f)).1)
node_pushes t f = λ i. ((steps_node t).answer f i, (steps_node t).layer f i)
