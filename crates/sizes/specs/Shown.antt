-- Where number 4 holds, what is found in place is what the graft of the shown trees adds.
use Rattle.std.specs.Prelude.{◌≡◌, drop, eqb}
use Rattle.std.proofs.Math.Path.{refl, sym, ap, ap₂}
use Rattle.std.proofs.Common.{◌∙◌}
use Prim.Native.Nat.{ℕ, zero, suc, ◌+◌}
use Rattle.std.proofs.Math.Bool.{true}
use mathlib.Core.List.{List, [], ◌∷◌, map}
use Rattle.std.proofs.Math.ListN.{length, take}
use Rattle.model.specs.Lists.{all}
use Rattle.model.specs.Bytes.{word_at}
use Rattle.model.specs.Limits.{no_string, max_level}
use Rattle.model.specs.Types.{Body, Content, Segment, SourceNode}
use Rattle.model.specs.Store.{NodeStore, store_of, resolve_content_range, resolve_seg_range}
use Rattle.model.specs.WellFormed.{word_of}
use Rattle.model.specs.Tape.{Field, Field.str, Field.opt_str, Field.content_range, Field.seg_range, fields_of, node_fields}
use Rattle.model.specs.Tape.{records_at, content_codec, segment_codec, node_codec, places, layers_at, book_at}
use Rattle.model.specs.Tree.{Tree, Tree.tree, Fields.done, show_segments, show_contents, show_fields, show_with, show_body, show_node, shown_node, shown_nodes}
use Rattle.facts.specs.Truth.{both, by_bool}
use Rattle.facts.specs.Keep.{all_take, all_drop}
use Rattle.laws.specs.Records.{run_length}
use Rattle.laws.specs.Layers.{ids_pools}
use Rattle.store.specs.Stored.{store_at}
use Rattle.store.specs.Standing.{content_place, segment_place, content_range_lem, segment_range}
use Rattle.store.specs.declared.Store.{Store}
use Rattle.ids.specs.Tests.{contents_in, segments_in, field_in, body_in, content_in, segment_in, node_in}
use Rattle.ids.specs.Whole.{content_ok_lem, segment_ok_lem, ids_are, ids_in, layers_in}
use Rattle.sizes.specs.Added.{Added, one_call, add, add_all, nothing_add}
use Rattle.sizes.specs.Trees.{tree_size, fields_size, contents_size, segments_size, contents_length, segments_length}
use Rattle.sizes.specs.Trees.{run_of_contents, run_of_segments, content_run_size, segment_run_size, nodes_size}
use Rattle.sizes.specs.InPlace.{content_count, segment_count, segments_add, segment_run_adds, content_adds, contents_add, content_run_adds}
use Rattle.sizes.specs.InPlace.{field_adds, fields_add, inner_adds, body_adds, node_adds, nodes_add}

-- ---- how many items are shown

module _ (show : Body → Tree) where
  pub segments_shown : (ss : List Segment) → segments_length (show_segments show ss) ≡ length ss
  unfolding show_segments segments_length
  segments_shown [] = refl
  segments_shown (s ∷ ss) = ap suc (segments_shown ss)

  pub contents_shown : (st : NodeStore) (cs : List Content) → contents_length (show_contents show st cs) ≡ length cs
  unfolding show_contents contents_length
  contents_shown st [] = refl
  contents_shown st (x ∷ xs) =
      by_bool (eqb x.tag 0)
      (λ e. rw e (ap suc (contents_shown st xs)))
      (λ e. rw e (ap suc (contents_shown st xs)))

-- the tree of a segment's body in a run that a body of level l names
unfoldable pub show_inner : ℕ → NodeStore → Body → Tree
show_inner zero s b = tree 0 0 0 0 done
show_inner (suc l) s b = show_body l s b

-- ---- runs and fields, where `inner` is what the tree of a segment's body adds

module _ (t : List ℕ) (st : Store) (e : st ≡ store_at t) (d : List ℕ) where
  abbrev shown_store : NodeStore
  shown_store = store_of (layers_at t (places t).layers d)

  module _ (show : Body → Tree) (inner : Body → Added) (agree : (b : Body) → body_in st b ≡ true → inner b ≡ tree_size (show b)) where
    pub segments_agree : (ss : List Segment) → all (segment_in st) ss ≡ true → segments_size (show_segments show ss) ≡ add_all (λ (s : Segment). inner s.body) ss
    unfolding show_segments segments_size add_all segment_in
    segments_agree [] h = refl
    segments_agree (s ∷ ss) h =
        let b = both (body_in st s.body) (all (segment_in st) ss) h in
        ap₂ (λ (x y : Added). add x y) (sym (agree s.body b.0)) (segments_agree ss b.1)

    module _ (segments_ok : all (segment_in st) shown_store.segments ≡ true) where
      -- a run of segments
      pub segment_run_agrees : (start len : ℕ) → segments_in st start len ≡ true
          → segment_run_size (show_segments show (resolve_seg_range shown_store start len)) ≡ segment_run_adds inner t st start len
      unfolding segment_run_size segment_run_adds segment_count segments_add resolve_seg_range
      segment_run_agrees start len h =
          let run = take len (drop start shown_store.segments) in
          let is : run ≡ records_at segment_codec t (segment_place st start) len = segment_range t st e d start len h in
          let n : segments_length (show_segments show run) ≡ len = segments_shown show run ∙ ap length is ∙ run_length segment_codec t (segment_place st start) len in
          let f : Segment → Added = λ s. inner s.body in
          rw h (ap₂ (λ (k : ℕ) (x : Added). run_of_segments k x) n
          (segments_agree run (all_take (segment_in st) len (drop start shown_store.segments) (all_drop (segment_in st) start shown_store.segments segments_ok)) ∙ ap (add_all f) is))

      content_agrees : (c : Content) (cs : List Content) → content_in st c ≡ true → contents_size (show_contents show shown_store cs) ≡ add_all (content_adds inner t st) cs
          → contents_size (show_contents show shown_store (c ∷ cs)) ≡ add (content_adds inner t st c) (add_all (content_adds inner t st) cs)
      unfolding show_contents contents_size content_in content_adds segment_run_size
      content_agrees c cs h more =
          by_bool (eqb c.tag 0)
          (λ z. rw z (ap (add one_call) more))
          (λ z.
          let g : segments_in st c.first c.second ≡ true = rw z at h in
          rw z (ap₂ (λ (x y : Added). add x y) (segment_run_agrees c.first c.second g) more))

      pub contents_agree : (cs : List Content) → all (content_in st) cs ≡ true → contents_size (show_contents show shown_store cs) ≡ add_all (content_adds inner t st) cs
      unfolding show_contents contents_size add_all
      contents_agree [] h = refl
      contents_agree (c ∷ cs) h = let b = both (content_in st c) (all (content_in st) cs) h in content_agrees c cs b.0 (contents_agree cs b.1)

      module _ (contents_ok : all (content_in st) shown_store.contents ≡ true) where
        -- a run of contents
        pub content_run_agrees : (start len : ℕ) → contents_in st start len ≡ true
            → content_run_size (show_contents show shown_store (resolve_content_range shown_store start len)) ≡ content_run_adds inner t st start len
        unfolding content_run_size content_run_adds content_count contents_add resolve_content_range
        content_run_agrees start len h =
            let run = take len (drop start shown_store.contents) in
            let is : run ≡ records_at content_codec t (content_place st start) len = content_range_lem t st e d start len h in
            let n : contents_length (show_contents show shown_store run) ≡ len =
            contents_shown show shown_store run ∙ ap length is ∙ run_length content_codec t (content_place st start) len in
            rw h (ap₂ (λ (k : ℕ) (x : Added). run_of_contents k x) n
            (contents_agree run (all_take (content_in st) len (drop start shown_store.contents) (all_drop (content_in st) start shown_store.contents contents_ok))
            ∙ ap (add_all (content_adds inner t st)) is))

        pub fields_agree : (b : Body) (fs : List Field) → all (field_in st b) fs ≡ true → fields_size (show_fields show shown_store b fs) ≡ fields_add inner t st b fs
        unfolding show_fields fields_size fields_add add_all field_adds field_in content_run_size segment_run_size
        fields_agree b [] h = refl
        fields_agree b (str i ∷ fs) h = ap (add one_call) (fields_agree b fs (both (field_in st b (str i)) (all (field_in st b) fs) h).1)
        fields_agree b (opt_str i ∷ fs) h =
            let more = fields_agree b fs (both (field_in st b (opt_str i)) (all (field_in st b) fs) h).1 in
            by_bool (eqb (word_of b i) no_string)
            (λ z. rw z (more ∙ sym (nothing_add (add_all (field_adds inner t st b) fs))))
            (λ z. rw z (ap (add one_call) more))
        fields_agree b (content_range i ∷ fs) h =
            let x = both (field_in st b (content_range i)) (all (field_in st b) fs) h in
            ap₂ (λ (u v : Added). add u v) (content_run_agrees (word_of b i) (word_of b (i + 1)) x.0) (fields_agree b fs x.1)
        fields_agree b (seg_range i ∷ fs) h =
            let x = both (field_in st b (seg_range i)) (all (field_in st b) fs) h in
            ap₂ (λ (u v : Added). add u v) (segment_run_agrees (word_of b i) (word_of b (i + 1)) x.0) (fields_agree b fs x.1)

  -- ---- bodies and nodes

  module _ (segments_ok : all (segment_in st) shown_store.segments ≡ true) (contents_ok : all (content_in st) shown_store.contents ≡ true) where
    pub inner_agrees : (l : ℕ) (b : Body) → body_in st b ≡ true → inner_adds l t st b ≡ tree_size (show_inner l shown_store b)
    unfolding inner_adds show_inner tree_size fields_size show_body show_with body_in
    inner_agrees zero b h = refl
    inner_agrees (suc zero) b h = sym (fields_agree (λ x. tree 0 0 0 0 done) (inner_adds 0 t st) (λ x g. inner_agrees zero x g) segments_ok contents_ok b (fields_of b) h)
    inner_agrees (suc (suc l)) b h =
        sym (fields_agree (λ x. show_body l shown_store x) (inner_adds (suc l) t st) (λ x g. inner_agrees (suc l) x g) segments_ok contents_ok b (fields_of b) h)

    pub body_agrees : (l : ℕ) (b : Body) → body_in st b ≡ true → body_adds l t st b ≡ tree_size (show_body l shown_store b)
    unfolding inner_adds body_adds show_inner
    body_agrees l b h = inner_agrees (suc l) b h

    pub node_agrees : (n : SourceNode) → node_in st n ≡ true → node_adds t st n ≡ tree_size (show_node shown_store n)
    unfolding node_adds show_node show_with tree_size node_in show_inner
    node_agrees n h = sym (fields_agree (λ x. show_body max_level shown_store x) (inner_adds 33 t st) (inner_agrees 33) segments_ok contents_ok n.body (node_fields n) h)

    pub nodes_agree : (ns : List SourceNode) → all (node_in st) ns ≡ true → add_all (node_adds t st) ns ≡ nodes_size (map (shown_node shown_store) ns)
    unfolding add_all nodes_size shown_node
    nodes_agree [] h = refl
    nodes_agree (n ∷ ns) h = let b = both (node_in st n) (all (node_in st) ns) h in ap₂ (λ (x y : Added). add x y) (node_agrees n b.0) (nodes_agree ns b.1)

-- The nodes of the book that the tape holds, where number 4 holds.
pub shown_nodes_add : (t : List ℕ) (st : Store) → st ≡ store_at t → ids_in t st ≡ true → (d : List ℕ)
    → nodes_add t st (places t).nodes_at (places t).node_count ≡ nodes_size (shown_nodes (book_at t (places t) d))
unfolding nodes_add shown_nodes book_at ids_in
shown_nodes_add t st e h d =
    let rest = drop (word_at t 1 + word_at t 5) d in
    let pools = ids_pools (book_at t (places t) d) (sym (ids_are t st e d) ∙ h) in
    let cs : all (content_in st) (store_of (layers_at t (places t).layers rest)).contents ≡ true = rw (content_ok_lem t st e rest) pools.0 in
    let ss : all (segment_in st) (store_of (layers_at t (places t).layers rest)).segments ≡ true = rw (segment_ok_lem t st e rest) pools.1 in
    nodes_agree t st e rest ss cs (records_at node_codec t (places t).nodes_at (places t).node_count) (both (layers_in t st) _ h).1
