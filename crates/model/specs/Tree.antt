-- Sections 5 and 7: a node with strings in place of ids and lists in place of ranges, and how a store shows one.
use Rattle.std.specs.Prelude.{ℕ, zero, suc, ◌+◌, cond, List, [], ◌∷◌, map, eqb}
use Rattle.model.specs.Limits.{no_string, max_level}
use Rattle.model.specs.Offset.{Span}
use Rattle.model.specs.Types.{Body, Content, Segment, SourceNode, LexOutput}
use Rattle.model.specs.Store.{NodeStore, store_of, resolve_str, resolve_content_range, resolve_seg_range}
use Rattle.model.specs.Tape.{Field, Field.str, Field.opt_str, Field.content_range, Field.seg_range, fields_of, node_fields}
use Rattle.model.specs.WellFormed.{word_of}

mutual
  -- a body: kind, tag, two plain words, fields
  pub data Tree : Type 0 where
    tree : (kind tag plain1 plain2 : ℕ) → Fields → Tree

  -- The fields in section 5's order, each with its place among the words: a string, a missing string, a list of contents, a
  -- list of segments.
  pub data Fields : Type 0 where
    done : Fields
    text : ℕ → List ℕ → Fields → Fields
    absent : ℕ → Fields → Fields
    contents : ℕ → Contents → Fields → Fields
    segments : ℕ → Segments → Fields → Fields

  -- a list of contents: Plain and Segments
  pub data Contents : Type 0 where
    no_content : Contents
    plain : List ℕ → Contents → Contents
    segmented : Segments → Contents → Contents

  -- a list of segments: tag, level and body of each
  pub data Segments : Type 0 where
    no_segment : Segments
    segment : (tag level : ℕ) → Tree → Segments → Segments

-- ---- how a store shows a body; `inner` shows the bodies of its segments

unfoldable pub show_segments : (Body → Tree) → List Segment → Segments
show_segments inner [] = no_segment
show_segments inner (s ∷ ss) = segment s.tag s.level (inner s.body) (show_segments inner ss)

unfoldable pub show_contents : (Body → Tree) → NodeStore → List Content → Contents
show_contents inner st [] = no_content
show_contents inner st (c ∷ cs) =
    let rest = show_contents inner st cs in
    let one = plain (resolve_str st c.first) rest in
    let many = segmented (show_segments inner (resolve_seg_range st c.first c.second)) rest in
    cond (eqb c.tag 0) one many

unfoldable pub show_fields : (Body → Tree) → NodeStore → Body → List Field → Fields
show_fields inner st b [] = done
show_fields inner st b (str i ∷ fs) = text i (resolve_str st (word_of b i)) (show_fields inner st b fs)
show_fields inner st b (opt_str i ∷ fs) =
    let rest = show_fields inner st b fs in
    let some = text i (resolve_str st (word_of b i)) rest in
    cond (eqb (word_of b i) no_string) (absent i rest) some
show_fields inner st b (content_range i ∷ fs) =
    contents i (show_contents inner st (resolve_content_range st (word_of b i) (word_of b (i + 1)))) (show_fields inner st b fs)
show_fields inner st b (seg_range i ∷ fs) =
    segments i (show_segments inner (resolve_seg_range st (word_of b i) (word_of b (i + 1)))) (show_fields inner st b fs)

unfoldable pub show_with : (Body → Tree) → NodeStore → List Field → Body → Tree
show_with inner st fs b = tree b.kind b.tag b.plain1 b.plain2 (show_fields inner st b fs)

-- The body of a segment whose level is at most l: the levels in its runs are lower. Where levels are right, the tree below
-- level 0 is never asked for.
unfoldable pub show_body : ℕ → NodeStore → Body → Tree
show_body zero st b = show_with (λ inner. tree 0 0 0 0 done) st (fields_of b) b
show_body (suc l) st b = show_with (λ inner. show_body l st inner) st (fields_of b) b

-- A node's body: the levels in its runs are at most 32.
unfoldable pub show_node : NodeStore → SourceNode → Tree
show_node st n = show_with (λ inner. show_body max_level st inner) st (node_fields n) n.body

-- ---- a node with its tree

pub record ShownNode : Type 0 where
  pub class : ℕ
  pub inline : ℕ
  pub source_span : Span
  pub normalized_offset : ℕ
  pub body : Tree

unfoldable pub shown_node : NodeStore → SourceNode → ShownNode
shown_node st n = record {
  class = n.class;
  inline = n.inline;
  source_span = n.source_span;
  normalized_offset = n.normalized_offset;
  body = show_node st n;
}

unfoldable pub shown_nodes : LexOutput → List ShownNode
shown_nodes b = map (shown_node (store_of b.layers)) b.source_nodes
