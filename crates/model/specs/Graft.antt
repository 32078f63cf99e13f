-- Section 5: trees copied into a new layer. Each function takes the layer so far and returns it with what it added.
use Rattle.std.specs.Prelude.{ℕ, ◌+◌, List, [], ◌∷◌, ◌++◌, length, set, replicate}
use Rattle.model.specs.Lists.{sum}
use Rattle.model.specs.Limits.{no_string}
use Rattle.model.specs.Intern.{StrInterner, fresh_interner, intern}
use Rattle.model.specs.Types.{Body, Content, Segment, Layer, SourceNode}
use Rattle.model.specs.Store.{string_counts, content_counts, segment_counts}
use Rattle.model.specs.Tree.{Tree, Tree.tree, Fields, Fields.done, Fields.text, Fields.absent, Fields.contents, Fields.segments, ShownNode}
use Rattle.model.specs.Tree.{Contents, Contents.no_content, Contents.plain, Contents.segmented, Segments, Segments.no_segment, Segments.segment}

-- The new layer so far, and where its own numbers begin: the `string_offset`, `content_offset` and `segment_offset` of the Rust.
pub record NewLayer : Type 0 where
  pub string_offset : ℕ
  pub content_offset : ℕ
  pub segment_offset : ℕ
  pub interner : StrInterner
  pub contents : List Content
  pub segments : List Segment

-- Section 3. `NodeStore::layered`: a new layer above these starts a fresh interner and never finds older strings.
unfoldable pub layered : List Layer → NewLayer
layered ls = record {
  string_offset = sum (string_counts ls);
  content_offset = sum (content_counts ls);
  segment_offset = sum (segment_counts ls);
  interner = fresh_interner;
  contents = [];
  segments = [];
}

-- the layer, as the tape has it
unfoldable pub layer_of : NewLayer → Layer
layer_of f = record { strings = f.interner.strings; contents = f.contents; segments = f.segments }

-- an answer, and the layer with what was added
abbrev pub With : Type 0 → Type 0
With A = A × NewLayer

-- Section 5. `graft_str`: the id of a string.
unfoldable pub graft_str : List ℕ → NewLayer → With ℕ
graft_str s f =
    let r = intern f.interner s in (
      f.string_offset + r.id,
      record {
        string_offset = f.string_offset;
        content_offset = f.content_offset;
        segment_offset = f.segment_offset;
        interner = r.state;
        contents = f.contents;
        segments = f.segments;
      },
    )

-- Section 5. `push_contents`: the start of a run of contents.
unfoldable pub push_contents : List Content → NewLayer → With ℕ
push_contents cs f = (
  f.content_offset + length f.contents,
  record {
    string_offset = f.string_offset;
    content_offset = f.content_offset;
    segment_offset = f.segment_offset;
    interner = f.interner;
    contents = f.contents ++ cs;
    segments = f.segments;
  },
)

-- Section 5. `push_segments`: the start of a run of segments.
unfoldable pub push_segments : List Segment → NewLayer → With ℕ
push_segments ss f = (
  f.segment_offset + length f.segments,
  record {
    string_offset = f.string_offset;
    content_offset = f.content_offset;
    segment_offset = f.segment_offset;
    interner = f.interner;
    contents = f.contents;
    segments = f.segments ++ ss;
  },
)

-- Section 5. Node, content and segment call each other down the levels; inner runs are pushed before outer; levels are copied.
unfoldable mutual
  -- `graft_node`: the body with new ids and ranges
  pub graft_node : Tree → NewLayer → With Body
  graft_node (tree kind tag plain1 plain2 fs) f =
      let r = graft_fields fs (replicate 6 0) f in
      (record { kind = kind; tag = tag; plain1 = plain1; plain2 = plain2; words = r.0 }, r.1)

  -- the words of a body, in which the fields' words are set in order
  pub graft_fields : Fields → List ℕ → NewLayer → With (List ℕ)
  graft_fields done ws f = (ws, f)
  graft_fields (text i s fs) ws f =
      let r = graft_str s f in
      graft_fields fs (set ws i r.0) r.1
  graft_fields (absent i fs) ws f = graft_fields fs (set ws i no_string) f
  graft_fields (contents i cs fs) ws f =
      let r = graft_contents cs f in
      let at = push_contents r.0 r.1 in
      graft_fields fs (set (set ws i at.0) (i + 1) (length r.0)) at.1
  graft_fields (segments i ss fs) ws f =
      let r = graft_segments ss f in
      let at = push_segments r.0 r.1 in
      graft_fields fs (set (set ws i at.0) (i + 1) (length r.0)) at.1

  -- `graft_content` of each
  pub graft_contents : Contents → NewLayer → With (List Content)
  graft_contents no_content f = ([], f)
  graft_contents (plain s cs) f =
      let r = graft_str s f in
      let rest = graft_contents cs r.1 in
      (record { tag = 0; first = r.0; second = 0 } ∷ rest.0, rest.1)
  graft_contents (segmented ss cs) f =
      let r = graft_segments ss f in
      let at = push_segments r.0 r.1 in
      let rest = graft_contents cs at.1 in
      (record { tag = 1; first = at.0; second = length r.0 } ∷ rest.0, rest.1)

  -- `graft_segment` of each
  pub graft_segments : Segments → NewLayer → With (List Segment)
  graft_segments no_segment f = ([], f)
  graft_segments (segment tag level t ss) f =
      let r = graft_node t f in
      let rest = graft_segments ss r.1 in
      (record { tag = tag; level = level; body = r.0 } ∷ rest.0, rest.1)

-- Section 5. `graft_node_ref`: a node with its grafted body, all else as it was.
unfoldable pub graft_node_ref : ShownNode → NewLayer → With SourceNode
graft_node_ref n f =
    let r = graft_node n.body f in (
      record {
        class = n.class;
        inline = n.inline;
        source_span = n.source_span;
        normalized_offset = n.normalized_offset;
        body = r.0;
      },
      r.1,
    )

-- Section 5. The nodes of a reading, in order.
unfoldable pub graft_node_refs : List ShownNode → NewLayer → With (List SourceNode)
graft_node_refs [] f = ([], f)
graft_node_refs (n ∷ ns) f =
    let r = graft_node_ref n f in
    let rest = graft_node_refs ns r.1 in
    (r.0 ∷ rest.0, rest.1)

-- ---- Wish 7

-- Wish 7. The list of intern calls that grafting makes: the strings of a tree, in section 5's order.
unfoldable mutual
  pub tree_calls : Tree → List (List ℕ)
  tree_calls (tree kind tag plain1 plain2 fs) = fields_calls fs

  pub fields_calls : Fields → List (List ℕ)
  fields_calls done = []
  fields_calls (text i s fs) = s ∷ fields_calls fs
  fields_calls (absent i fs) = fields_calls fs
  fields_calls (contents i cs fs) = contents_calls cs ++ fields_calls fs
  fields_calls (segments i ss fs) = segments_calls ss ++ fields_calls fs

  pub contents_calls : Contents → List (List ℕ)
  contents_calls no_content = []
  contents_calls (plain s cs) = s ∷ contents_calls cs
  contents_calls (segmented ss cs) = segments_calls ss ++ contents_calls cs

  pub segments_calls : Segments → List (List ℕ)
  segments_calls no_segment = []
  segments_calls (segment tag level t ss) = tree_calls t ++ segments_calls ss

-- Wish 7. Of nodes, one behind the other.
unfoldable pub graft_calls : List ShownNode → List (List ℕ)
graft_calls [] = []
graft_calls (n ∷ ns) = tree_calls n.body ++ graft_calls ns
