-- The records that a graft makes have their sizes: 10 bytes a content, 37 a segment, whose body has six words.
use Rattle.std.specs.Prelude.{◌≡◌, refl, ℕ, ◌+◌, ◌*◌, length, set, replicate}
use Rattle.std.proofs.Common.{ap, ◌∙◌, arith, length-set, length-append}
use mathlib.Core.List.{List, [], ◌∷◌, ◌++◌, flatten}
use Rattle.model.specs.Limits.{no_string}
use Rattle.model.specs.Bytes.{word_bytes}
use Rattle.model.specs.Types.{Body, Content, Segment}
use Rattle.model.specs.Tape.{record_bytes, records_bytes, operand_bytes, content_codec, segment_codec}
use Rattle.model.specs.Tree.{Tree, Tree.tree, Fields, Fields.done, Fields.text, Fields.absent, Fields.contents, Fields.segments}
use Rattle.model.specs.Tree.{Contents, Contents.no_content, Contents.plain, Contents.segmented, Segments, Segments.no_segment, Segments.segment}
use Rattle.model.specs.Graft.{NewLayer, graft_str, push_contents, push_segments, graft_node, graft_fields, graft_contents, graft_segments}
use Rattle.laws.specs.Parts.{records_width, bytes_append}
use Rattle.graft.specs.Grafted.{Sized}

pub contents_width : (cs : List Content) → length (records_bytes content_codec cs) ≡ 10 * length cs
unfolding content_codec
contents_width = records_width content_codec (λ c. refl)

-- ---- six words

pub record SixWords (b : Body) : Type 0 where
  pub is : length b.words ≡ 6

pub six_words_lem : (ws : List ℕ) → length ws ≡ 6 → (x : List ℕ → ℕ) (n : ℕ) → ((a b d e f g : ℕ) → x (a ∷ b ∷ d ∷ e ∷ f ∷ g ∷ []) ≡ n) → x ws ≡ n
six_words_lem (a ∷ b ∷ d ∷ e ∷ f ∷ g ∷ []) h x n y = y a b d e f g
six_words_lem [] h x n y = absurd (omega arith)
six_words_lem (a ∷ []) h x n y = absurd (omega arith)
six_words_lem (a ∷ b ∷ []) h x n y = absurd (omega arith)
six_words_lem (a ∷ b ∷ d ∷ []) h x n y = absurd (omega arith)
six_words_lem (a ∷ b ∷ d ∷ e ∷ []) h x n y = absurd (omega arith)
six_words_lem (a ∷ b ∷ d ∷ e ∷ f ∷ []) h x n y = absurd (omega arith)
six_words_lem (a ∷ b ∷ d ∷ e ∷ f ∷ g ∷ k ∷ l) h x n y = absurd (omega arith)

segment_width : (s : Segment) → SixWords s.body → length (record_bytes segment_codec s) ≡ 37
unfolding record_bytes operand_bytes segment_codec word_bytes
segment_width s w =
    six_words_lem s.body.words w.is
    (λ ws. length (record_bytes segment_codec (record { tag = s.tag; level = s.level; body = record { kind = s.body.kind; tag = s.body.tag; plain1 = s.body.plain1; plain2 = s.body.plain2; words = ws } })))
    37 (λ a b d e f g. refl)

-- the grafted words are as many as there were
fields_six : (fs : Fields) (ws : List ℕ) (f : NewLayer) → length (graft_fields fs ws f).0 ≡ length ws
unfolding graft_fields
fields_six done ws f = refl
fields_six (text i s fs) ws f = let r = graft_str s f in fields_six fs (set ws i r.0) r.1 ∙ length-set ws i r.0
fields_six (absent i fs) ws f = fields_six fs (set ws i no_string) f ∙ length-set ws i no_string
fields_six (contents i cs fs) ws f =
    let r = graft_contents cs f in
    let at = push_contents r.0 r.1 in
    fields_six fs (set (set ws i at.0) (i + 1) (length r.0)) at.1 ∙ length-set (set ws i at.0) (i + 1) (length r.0) ∙ length-set ws i at.0
fields_six (segments i ss fs) ws f =
    let r = graft_segments ss f in
    let at = push_segments r.0 r.1 in
    fields_six fs (set (set ws i at.0) (i + 1) (length r.0)) at.1 ∙ length-set (set ws i at.0) (i + 1) (length r.0) ∙ length-set ws i at.0

pub node_six : (t : Tree) (f : NewLayer) → SixWords (graft_node t f).0
unfolding graft_node
node_six (tree kind tag plain1 plain2 fs) f = record { is = fields_six fs (replicate 6 0) f }

-- a run's items
pub segments_width : (ss : Segments) (f : NewLayer) → length (records_bytes segment_codec (graft_segments ss f).0) ≡ 37 * length (graft_segments ss f).0
unfolding graft_segments records_bytes flatten
segments_width no_segment f = refl
segments_width (segment tag level t ss) f =
    let b = graft_node t f in
    let s : Segment = record { tag = tag; level = level; body = b.0 } in
    let rest = graft_segments ss b.1 in
    length-append (record_bytes segment_codec s) (records_bytes segment_codec rest.0) ∙ (let x = segment_width s (node_six t f) in let y = segments_width ss b.1 in omega (arith, x, y))

-- ---- the pools

str_sized : (s : List ℕ) (f : NewLayer) → Sized f → Sized (graft_str s f).1
unfolding graft_str
str_sized s f x = record { contents = x.contents; segments = x.segments }

push_contents_sized : (cs : List Content) (f : NewLayer) → Sized f → Sized (push_contents cs f).1
unfolding push_contents
push_contents_sized cs f x = record { contents = contents_width (f.contents ++ cs); segments = x.segments }

push_segments_sized : (ss : List Segment) (f : NewLayer) → length (records_bytes segment_codec ss) ≡ 37 * length ss → Sized f → Sized (push_segments ss f).1
unfolding push_segments
push_segments_sized ss f w x = record {
  contents = x.contents;
  segments =
      ap length (bytes_append segment_codec f.segments ss) ∙ length-append (records_bytes segment_codec f.segments) (records_bytes segment_codec ss)
      ∙ (let n = length-append f.segments ss in omega (arith, n, w, x.segments));
}

mutual
  unfolding graft_node

  pub node_sized : (t : Tree) (f : NewLayer) → Sized f → Sized (graft_node t f).1
  node_sized (tree kind tag plain1 plain2 fs) f x = fields_sized fs (replicate 6 0) f x

  pub fields_sized : (fs : Fields) (ws : List ℕ) (f : NewLayer) → Sized f → Sized (graft_fields fs ws f).1
  fields_sized done ws f x = x
  fields_sized (text i s fs) ws f x = let r = graft_str s f in fields_sized fs (set ws i r.0) r.1 (str_sized s f x)
  fields_sized (absent i fs) ws f x = fields_sized fs (set ws i no_string) f x
  fields_sized (contents i cs fs) ws f x =
      let r = graft_contents cs f in
      let at = push_contents r.0 r.1 in
      fields_sized fs (set (set ws i at.0) (i + 1) (length r.0)) at.1 (push_contents_sized r.0 r.1 (contents_sized cs f x))
  fields_sized (segments i ss fs) ws f x =
      let r = graft_segments ss f in
      let at = push_segments r.0 r.1 in
      fields_sized fs (set (set ws i at.0) (i + 1) (length r.0)) at.1 (push_segments_sized r.0 r.1 (segments_width ss f) (segments_sized ss f x))

  pub contents_sized : (cs : Contents) (f : NewLayer) → Sized f → Sized (graft_contents cs f).1
  contents_sized no_content f x = x
  contents_sized (plain s cs) f x = contents_sized cs (graft_str s f).1 (str_sized s f x)
  contents_sized (segmented ss cs) f x =
      let r = graft_segments ss f in
      contents_sized cs (push_segments r.0 r.1).1 (push_segments_sized r.0 r.1 (segments_width ss f) (segments_sized ss f x))

  pub segments_sized : (ss : Segments) (f : NewLayer) → Sized f → Sized (graft_segments ss f).1
  segments_sized no_segment f x = x
  segments_sized (segment tag level t ss) f x = segments_sized ss (graft_node t f).1 (node_sized t f x)
