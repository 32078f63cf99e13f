-- What is grafted shows the tree it was made of and passes numbers 1, 2, 4 and 5, in every later state g of its layer. One
-- induction over trees.
use Rattle.std.specs.Prelude.{◌≡◌, ℕ, zero, suc, ◌+◌, ◌%◌, ◌≤◌, ◌<◌, Bool, cond, not, ◌&&◌, ◌||◌, set, take, drop, replicate, eqb, ltb, leb}
use Rattle.std.proofs.Math.Path.{refl, ap}
use Rattle.std.proofs.Common.{sym, ap₂, ◌∙◌, subst, arith, add-zero, zero-add, length-append, length-set, get_or-set_same, get_or-set_other}
use Rattle.std.proofs.Math.Bool.{true, false}
use Rattle.std.proofs.lemmas.Bool.{false≢true}
use mathlib.Core.List.{List, [], ◌∷◌, ◌++◌, append_assoc, map, flatten}
use Rattle.std.proofs.Math.ListN.{length, get_or, get_or-append}
use Rattle.std.proofs.Math.Seq.{get_or-append-add, drop-append-add, drop-append_seam, take-append_seam}
use borrow.Author.Tests.{eqb-false, ltb-true, lt-ltb, not-true, ne_eqb, eq-eqb}
use Rattle.model.specs.Lists.{all, any}
use Rattle.model.specs.Limits.{no_string, max_level}
use Rattle.model.specs.Utf8.{utf8}
use Rattle.model.specs.Types.{Body, Content, Segment, Layer}
use Rattle.model.specs.Tape.{Operand, Operand.byte, Operand.word, content_codec, segment_codec, Field, Field.str, Field.opt_str, Field.content_range, Field.seg_range, field_table, fields_of, tag_counts, uses_word, unused_zero, body_shape, content_shape, segment_shape}
use Rattle.model.specs.Store.{NodeStore, string_counts, content_counts, segment_counts, id_ok, range_ok, resolve_str, resolve_content_range, resolve_seg_range}
use Rattle.model.specs.WellFormed.{word_of, field_ok, content_ok, segment_ok, content_segments, field_segments, level_ok}
use Rattle.model.specs.Intern.{intern}
use Rattle.model.specs.Tree.{Tree, Tree.tree, Fields, Fields.done, Fields.text, Fields.absent, Fields.contents, Fields.segments}
use Rattle.model.specs.Tree.{Contents, Contents.no_content, Contents.plain, Contents.segmented, Segments, Segments.no_segment, Segments.segment}
use Rattle.model.specs.Tree.{show_segments, show_contents, show_fields, show_with, show_body}
use Rattle.model.specs.Graft.{NewLayer, graft_str, push_contents, push_segments, graft_node, graft_fields, graft_contents, graft_segments}
use Rattle.facts.specs.Truth.{both, join, neither}
use Rattle.facts.specs.Lists.{get_zeros}
use Rattle.facts.specs.Keep.{all_append, all_append_is, all_get, all_set}
use Rattle.facts.specs.Prefix.{Prefix, prefix_refl, prefix_trans, prefix_length}
use Rattle.laws.specs.Fits.{is_word, operand_fits, operands_fit, record_fits}
use Rattle.laws.specs.Intern.{Sound, intern_answers}

-- ---- the old store with the new layer above it

abbrev pub with_layer : NodeStore → NewLayer → NodeStore
with_layer old f = record {
  strings = old.strings ++ f.interner.strings;
  contents = old.contents ++ f.contents;
  segments = old.segments ++ f.segments;
}

-- the new layer's numbers begin where the old store's end
pub record Above (old : NodeStore) (f : NewLayer) : Type 0 where
  pub strings : f.string_offset ≡ length old.strings
  pub contents : f.content_offset ≡ length old.contents
  pub segments : f.segment_offset ≡ length old.segments
  pub sound : Sound f.interner

-- g is f with more behind
pub record Later (f g : NewLayer) : Type 0 where
  pub strings : Prefix f.interner.strings g.interner.strings
  pub contents : Prefix f.contents g.contents
  pub segments : Prefix f.segments g.segments

pub later_refl : (f : NewLayer) → Later f f
later_refl f = record { strings = prefix_refl; contents = prefix_refl; segments = prefix_refl }

pub later_trans : {f g h : NewLayer} → Later f g → Later g h → Later f h
later_trans {f} {g} {h} a b = record {
  strings = prefix_trans a.strings b.strings;
  contents = prefix_trans a.contents b.contents;
  segments = prefix_trans a.segments b.segments;
}

-- the layer was only added to, and its numbers still begin where the old store's end
pub record Made (old : NodeStore) (f g : NewLayer) : Type 0 where
  pub above : Above old g
  pub later : Later f g

pub made_trans : {old : NodeStore} {f g h : NewLayer} → Made old f g → Made old g h → Made old f h
made_trans a b = record { above = b.above; later = later_trans a.later b.later }

-- the layers ls number what the old store and the layer g hold, and a word can
pub record Numbered (old : NodeStore) (g : NewLayer) (ls : List Layer) : Type 0 where
  pub string : (id : ℕ) → id < length old.strings + length g.interner.strings → id_ok (string_counts ls) id ≡ true
  pub content : (a n : ℕ) → a + n ≤ length g.contents → range_ok (content_counts ls) (length old.contents + a) n ≡ true
  pub segment : (a n : ℕ) → a + n ≤ length g.segments → range_ok (segment_counts ls) (length old.segments + a) n ≡ true
  pub strings : length old.strings + length g.interner.strings ≤ no_string
  pub contents : length old.contents + length g.contents ≤ no_string
  pub segments : length old.segments + length g.segments ≤ no_string

-- ---- levels, by the tree that is shown

-- the levels in the runs of a tree's fields are below l
abbrev pub segment_levels : ℕ → Segments → Bool
segment_levels l no_segment = true
segment_levels l (segment tag level t ss) = ltb level l && segment_levels l ss

abbrev pub content_levels : ℕ → Contents → Bool
content_levels l no_content = true
content_levels l (plain s cs) = content_levels l cs
content_levels l (segmented ss cs) = segment_levels l ss && content_levels l cs

abbrev pub field_levels : ℕ → Fields → Bool
field_levels l done = true
field_levels l (text i s fs) = field_levels l fs
field_levels l (absent i fs) = field_levels l fs
field_levels l (contents i cs fs) = content_levels l cs && field_levels l fs
field_levels l (segments i ss fs) = segment_levels l ss && field_levels l fs

-- the level of a segment with this tree: number 5
abbrev pub level_from : ℕ → ℕ → Tree → Bool
level_from tag level (tree kind k p₁ p₂ fs) = cond (ltb tag 3) (eqb level 0) (leb 1 level && leb level max_level && field_levels level fs)

segment_levels_lem : (show : Body → Tree) (l : ℕ) (ss : List Segment) → segment_levels l (show_segments show ss) ≡ all (λ (s : Segment). ltb s.level l) ss
unfolding show_segments
segment_levels_lem show l [] = refl
segment_levels_lem show l (s ∷ ss) = ap (λ (t : Bool). ltb s.level l && t) (segment_levels_lem show l ss)

content_levels_lem : (show : Body → Tree) (st : NodeStore) (l : ℕ) (cs : List Content) → content_levels l (show_contents show st cs) ≡ all (λ (s : Segment). ltb s.level l) (flatten (map (content_segments st) cs))
unfolding show_contents content_segments flatten
content_levels_lem show st l [] = refl
content_levels_lem show st l (c ∷ cs) = go (eqb c.tag 0) (content_levels_lem show st l cs)
  where
    low : Segment → Bool
    low s = ltb s.level l

    go : (t : Bool) → content_levels l (show_contents show st cs) ≡ all low (flatten (map (content_segments st) cs))
        → content_levels l (cond t (plain (resolve_str st c.first) (show_contents show st cs)) (segmented (show_segments show (resolve_seg_range st c.first c.second)) (show_contents show st cs)))
        ≡ all low (cond t [] (resolve_seg_range st c.first c.second) ++ flatten (map (content_segments st) cs))
    go true r = r
    go false r =
        ap₂ (λ (x y : Bool). x && y) (segment_levels_lem show l (resolve_seg_range st c.first c.second)) r
        ∙ sym (all_append_is low (resolve_seg_range st c.first c.second) (flatten (map (content_segments st) cs)))

levels_shown : (show : Body → Tree) (st : NodeStore) (b : Body) (l : ℕ) (xs : List Field)
    → field_levels l (show_fields show st b xs) ≡ all (λ (f : Field). all (λ (s : Segment). ltb s.level l) (field_segments st b f)) xs
unfolding show_fields field_segments
levels_shown show st b l [] = refl
levels_shown show st b l (str i ∷ xs) = levels_shown show st b l xs
levels_shown show st b l (opt_str i ∷ xs) = go (eqb (word_of b i) no_string) (levels_shown show st b l xs)
  where
    go : (t : Bool) → field_levels l (show_fields show st b xs) ≡ all (λ (f : Field). all (λ (s : Segment). ltb s.level l) (field_segments st b f)) xs
        → field_levels l (cond t (absent i (show_fields show st b xs)) (text i (resolve_str st (word_of b i)) (show_fields show st b xs))) ≡ all (λ (f : Field). all (λ (s : Segment). ltb s.level l) (field_segments st b f)) xs
    go true r = r
    go false r = r
levels_shown show st b l (content_range i ∷ xs) = ap₂ (λ (x y : Bool). x && y) (content_levels_lem show st l (resolve_content_range st (word_of b i) (word_of b (i + 1)))) (levels_shown show st b l xs)
levels_shown show st b l (seg_range i ∷ xs) = ap₂ (λ (x y : Bool). x && y) (segment_levels_lem show l (resolve_seg_range st (word_of b i) (word_of b (i + 1)))) (levels_shown show st b l xs)

-- number 5 of a segment is the same test of the tree that its body shows
pub level_shown : (show : Body → Tree) (st : NodeStore) (s : Segment) → level_ok st s ≡ level_from s.tag s.level (show_with show st (fields_of s.body) s.body)
unfolding level_ok show_with
level_shown show st s = ap (λ (x : Bool). cond (ltb s.tag 3) (eqb s.level 0) (leb 1 s.level && leb s.level max_level && x)) (sym (levels_shown show st s.body s.level (fields_of s.body)))

-- ---- trees that a store can show, with segments at most l deep

-- how bodies of segments are shown, l deep
abbrev pub inner : ℕ → NodeStore → Body → Tree
inner zero st b = tree 0 0 0 0 done
inner (suc l) st b = show_body l st b

pub show_body_lem : (l : ℕ) (st : NodeStore) (b : Body) → show_body l st b ≡ show_with (λ x. inner l st x) st (fields_of b) b
unfolding show_body
show_body_lem zero st b = refl
show_body_lem (suc l) st b = refl

-- a string whose length fits a word, and that is UTF-8
abbrev pub good_string : List ℕ → Bool
good_string s = is_word (length s) && utf8 s

-- the kind that a segment's tag carries
abbrev pub tag_kind : ℕ → ℕ → Bool
tag_kind tag kind = (eqb tag 0 && eqb kind 0) || (eqb tag 1 && eqb kind 3) || (eqb tag 2 && eqb kind 13) || (eqb tag 3 && leb 1 kind)

-- the operands of a segment before its six words, and these
abbrev pub segment_head : List Operand
segment_head = byte ∷ byte ∷ byte ∷ byte ∷ word ∷ word ∷ []

abbrev pub six_words : List Operand
six_words = word ∷ word ∷ word ∷ word ∷ word ∷ word ∷ []

-- a segment's tag and level, and what its body has before its words
abbrev pub segment_from : ℕ → ℕ → Tree → Bool
segment_from tag level (tree kind k p₁ p₂ fs) =
    operands_fit segment_head (tag ∷ level ∷ kind ∷ k ∷ p₁ ∷ p₂ ∷ []) && (tag_kind tag kind && (ltb k (get_or tag_counts kind 0) && level_from tag level (tree kind k p₁ p₂ fs)))

-- a field that a string is shown for: one that may be missing, or not
abbrev pub string_field : Bool → ℕ → Field
string_field true i = opt_str i
string_field false i = str i

abbrev mutual
  -- the fields are those of the body's kind and tag
  pub TreeOf : Tree → ℕ → Type 0
  TreeOf (tree kind tag p₁ p₂ fs) l = FieldsOf fs l (get_or (field_table tag) kind [])

  pub FieldsOf : Fields → ℕ → List Field → Type 0
  FieldsOf done l xs = xs ≡ []
  FieldsOf (text i s fs) l xs = (may : Bool) × (ys : List Field) × (xs ≡ string_field may i ∷ ys) × (good_string s ≡ true) × FieldsOf fs l ys
  FieldsOf (absent i fs) l xs = (ys : List Field) × (xs ≡ opt_str i ∷ ys) × FieldsOf fs l ys
  FieldsOf (contents i cs fs) l xs = (ys : List Field) × (xs ≡ content_range i ∷ ys) × ContentsOf cs l × FieldsOf fs l ys
  FieldsOf (segments i ss fs) l xs = (ys : List Field) × (xs ≡ seg_range i ∷ ys) × SegmentsOf ss l × FieldsOf fs l ys

  pub ContentsOf : Contents → ℕ → Type 0
  ContentsOf no_content l = Unit {0}
  ContentsOf (plain s cs) l = (good_string s ≡ true) × ContentsOf cs l
  ContentsOf (segmented ss cs) l = SegmentsOf ss l × ContentsOf cs l

  pub SegmentsOf : Segments → ℕ → Type 0
  SegmentsOf no_segment l = Unit {0}
  SegmentsOf (segment tag level t ss) zero = ⊥
  SegmentsOf (segment tag level t ss) (suc l) = (segment_from tag level t ≡ true) × TreeOf t l × SegmentsOf ss (suc l)

-- ---- the fields of a kind use different words, all among the six

abbrev free : ℕ → List Field → Bool
free i fs = ltb i 6 && not (any (uses_word i) fs)

abbrev pub distinct : List Field → Bool
distinct [] = true
distinct (str i ∷ fs) = free i fs && distinct fs
distinct (opt_str i ∷ fs) = free i fs && distinct fs
distinct (content_range i ∷ fs) = free i fs && (free (i + 1) fs && distinct fs)
distinct (seg_range i ∷ fs) = free i fs && (free (i + 1) fs && distinct fs)

pub table_distinct : (tag kind : ℕ) → distinct (get_or (field_table tag) kind []) ≡ true
unfolding field_table
table_distinct tag kind = all_get distinct (field_table tag) kind [] (go (leb 2 (tag % 4)) (eqb tag 2) (eqb tag 1)) refl
  where
    go : (x y z : Bool) → all distinct
        ((str 0 ∷ []) ∷ (content_range 0 ∷ content_range 2 ∷ []) ∷ (content_range 0 ∷ cond x (str 2 ∷ []) []) ∷ (cond y (opt_str 1 ∷ []) [] ++ (str 0 ∷ []))
        ∷ [] ∷ [] ∷ [] ∷ [] ∷ [] ∷ (content_range 0 ∷ []) ∷ (str 0 ∷ [])
        ∷ (str 0 ∷ opt_str 1 ∷ opt_str 2 ∷ cond z (str 4 ∷ []) (cond y (seg_range 4 ∷ []) []) ++ (opt_str 3 ∷ []))
        ∷ (str 0 ∷ []) ∷ (str 0 ∷ []) ∷ (content_range 0 ∷ []) ∷ (content_range 0 ∷ content_range 2 ∷ []) ∷ []) ≡ true
    go true true true = refl
    go true true false = refl
    go true false true = refl
    go true false false = refl
    go false true true = refl
    go false true false = refl
    go false false true = refl
    go false false false = refl

-- ---- words that are set stay as they are

-- final keeps every word that the fields do not use
abbrev pub Keeps : List Field → List ℕ → List ℕ → Type 0
Keeps fs ws final = (j : ℕ) → any (uses_word j) fs ≡ false → get_or final j 0 ≡ get_or ws j 0

-- a word that was set at a free place is there at the end
word_kept : (fs : List Field) (ws final : List ℕ) (i v : ℕ) → length ws ≡ 6 → free i fs ≡ true → Keeps fs (set ws i v) final → get_or final i 0 ≡ v
word_kept fs ws final i v six fr k =
    let f = both (ltb i 6) (not (any (uses_word i) fs)) fr in
    k i (not-true (any (uses_word i) fs) f.1) ∙ get_or-set_same ws i v 0 (omega (arith, ltb-true i 6 f.0))

-- and the words of no field are as they were
one_kept : (fs : List Field) (ws final : List ℕ) (i v : ℕ) → Keeps fs (set ws i v) final → (j : ℕ) → eqb j i || any (uses_word j) fs ≡ false → get_or final j 0 ≡ get_or ws j 0
one_kept fs ws final i v k j e =
    let n = neither (eqb j i) (any (uses_word j) fs) e in
    k j n.1 ∙ get_or-set_other ws i j v 0 (eqb-false j i n.0)

two_kept : (fs : List Field) (ws final : List ℕ) (i v w : ℕ) → Keeps fs (set (set ws i v) (i + 1) w) final
    → (j : ℕ) → (eqb j i || eqb j (i + 1)) || any (uses_word j) fs ≡ false → get_or final j 0 ≡ get_or ws j 0
two_kept fs ws final i v w k j e =
    let n = neither (eqb j i || eqb j (i + 1)) (any (uses_word j) fs) e in
    let m = neither (eqb j i) (eqb j (i + 1)) n.0 in
    k j n.1 ∙ get_or-set_other (set ws i v) (i + 1) j w 0 (eqb-false j (i + 1) m.1) ∙ get_or-set_other ws i j v 0 (eqb-false j i m.0)

-- the first of two words that were set
first_kept : (fs : List Field) (ws final : List ℕ) (i v w : ℕ) → length ws ≡ 6 → free i fs ≡ true → Keeps fs (set (set ws i v) (i + 1) w) final → get_or final i 0 ≡ v
first_kept fs ws final i v w six fr k =
    let f = both (ltb i 6) (not (any (uses_word i) fs)) fr in
    k i (not-true (any (uses_word i) fs) f.1) ∙ get_or-set_other (set ws i v) (i + 1) i w 0 (λ e. omega arith) ∙ get_or-set_same ws i v 0 (omega (arith, ltb-true i 6 f.0))

rest_distinct : (may : Bool) (i : ℕ) (xs : List Field) → distinct (string_field may i ∷ xs) ≡ true → distinct xs ≡ true
rest_distinct true i xs d = (both (free i xs) (distinct xs) d).1
rest_distinct false i xs d = (both (free i xs) (distinct xs) d).1

run_distinct : (i : ℕ) (xs : List Field) → free i xs && (free (i + 1) xs && distinct xs) ≡ true → distinct xs ≡ true
run_distinct i xs d = (both (free (i + 1) xs) (distinct xs) (both (free i xs) (free (i + 1) xs && distinct xs) d).1).1

two_six : (ws : List ℕ) (i v n : ℕ) → length ws ≡ 6 → length (set (set ws i v) (i + 1) n) ≡ 6
two_six ws i v n six = length-set (set ws i v) (i + 1) n ∙ length-set ws i v ∙ six

-- a body with zeros in the words that its fields do not use
pub zero_unused : (fs : List Field) (i : ℕ) (ws : List ℕ) → ((j : ℕ) → any (uses_word (i + j)) fs ≡ false → get_or ws j 0 ≡ 0) → unused_zero fs i ws ≡ true
unfolding unused_zero
zero_unused fs i [] h = refl
zero_unused fs i (w ∷ ws) h = go (any (uses_word i) fs) refl (zero_unused fs (i + 1) ws (λ j e. h (suc j) (ap (λ (k : ℕ). any (uses_word k) fs) (next j) ∙ e)))
  where
    next : (j : ℕ) → i + suc j ≡ i + 1 + j
    next j = omega arith

    go : (t : Bool) → any (uses_word i) fs ≡ t → unused_zero fs (i + 1) ws ≡ true → (t || eqb w 0) && unused_zero fs (i + 1) ws ≡ true
    go true e r = r
    go false e r = rw (eq-eqb w 0 (h zero (ap (λ (k : ℕ). any (uses_word k) fs) (add-zero i) ∙ e))) r

pub unused_kept : (xs : List Field) (final : List ℕ) → Keeps xs (replicate 6 0) final → unused_zero xs 0 final ≡ true
unused_kept xs final k = zero_unused xs 0 final (λ j e. k j (ap (λ (i : ℕ). any (uses_word i) xs) (sym (zero-add j)) ∙ e) ∙ get_zeros 6 j)

-- ---- operands one behind the other

pub operands_append : (os os' : List Operand) (vs vs' : List ℕ) → operands_fit os vs ≡ true → operands_fit os' vs' ≡ true → operands_fit (os ++ os') (vs ++ vs') ≡ true
unfolding operands_fit
operands_append [] os' [] vs' e f = f
operands_append [] os' (v ∷ vs) vs' e f = absurd (false≢true e)
operands_append (o ∷ os) os' [] vs' e f = absurd (false≢true e)
operands_append (o ∷ os) os' (v ∷ vs) vs' e f = let s = both (operand_fits o v) (operands_fit os vs) e in join (operand_fits o v) (operands_fit (os ++ os') (vs ++ vs')) s.0 (operands_append os os' vs vs' s.1 f)

pub operands_left : (os os' : List Operand) (vs vs' : List ℕ) → length os ≡ length vs → operands_fit (os ++ os') (vs ++ vs') ≡ true → operands_fit os vs ≡ true
unfolding operands_fit
operands_left [] os' [] vs' l e = refl
operands_left [] os' (v ∷ vs) vs' l e = absurd (omega arith)
operands_left (o ∷ os) os' [] vs' l e = absurd (omega arith)
operands_left (o ∷ os) os' (v ∷ vs) vs' l e =
    let s = both (operand_fits o v) (operands_fit (os ++ os') (vs ++ vs')) e in
    join (operand_fits o v) (operands_fit os vs) s.0 (operands_left os os' vs vs' (omega arith) s.1)

pub six_fit : (n : ℕ) (ws : List ℕ) → length ws ≡ n → all is_word ws ≡ true → operands_fit (replicate n word) ws ≡ true
unfolding operands_fit
six_fit zero [] e a = refl
six_fit zero (w ∷ ws) e a = absurd (omega arith)
six_fit (suc n) [] e a = absurd (omega arith)
six_fit (suc n) (w ∷ ws) e a = let s = both (is_word w) (all is_word ws) a in join (is_word w) (operands_fit (replicate n word) ws) s.0 (six_fit n ws (omega arith) s.1)

-- ---- the law

module _ {old : NodeStore} {g : NewLayer} {ls : List Layer} (numbered : Numbered old g ls) where
  abbrev pub st : NodeStore
  st = with_layer old g

  abbrev pub good_content : Content → Bool
  good_content c = record_fits content_codec c && (content_shape c && content_ok ls c)

  abbrev pub good_segment : Segment → Bool
  good_segment s = record_fits segment_codec s && (segment_shape s && (level_ok st s && segment_ok ls s))

  -- the parts of the two tests
  pub record ContentFacts (c : Content) : Type 0 where
    pub fits : record_fits content_codec c ≡ true
    pub shape : content_shape c ≡ true
    pub ids : content_ok ls c ≡ true

  pub content_facts : (c : Content) → good_content c ≡ true → ContentFacts c
  content_facts c e =
      let u = both (record_fits content_codec c) (content_shape c && content_ok ls c) e in
      let v = both (content_shape c) (content_ok ls c) u.1 in
      record { fits = u.0; shape = v.0; ids = v.1 }

  pub record SegmentFacts (s : Segment) : Type 0 where
    pub fits : record_fits segment_codec s ≡ true
    pub shape : segment_shape s ≡ true
    pub level : level_ok st s ≡ true
    pub ids : segment_ok ls s ≡ true

  pub segment_facts : (s : Segment) → good_segment s ≡ true → SegmentFacts s
  segment_facts s e =
      let u = both (record_fits segment_codec s) (segment_shape s && (level_ok st s && segment_ok ls s)) e in
      let v = both (segment_shape s) (level_ok st s && segment_ok ls s) u.1 in
      let w = both (level_ok st s) (segment_ok ls s) v.1 in
      record { fits = u.0; shape = v.0; level = w.0; ids = w.1 }

  pub record Pools (f : NewLayer) : Type 0 where
    pub strings : all good_string f.interner.strings ≡ true
    pub contents : all good_content f.contents ≡ true
    pub segments : all good_segment f.segments ≡ true

  -- ---- the three smallest steps

  record StrMade (s : List ℕ) (f : NewLayer) : Type 0 where
    pub made : Made old f (graft_str s f).1
    pub pools : good_string s ≡ true → Pools f → Pools (graft_str s f).1
    pub shows : Later (graft_str s f).1 g → resolve_str st (graft_str s f).0 ≡ s
    pub ok : Later (graft_str s f).1 g → id_ok (string_counts ls) (graft_str s f).0 ≡ true
    pub below : Later (graft_str s f).1 g → (graft_str s f).0 < no_string

  str_made : (s : List ℕ) (f : NewLayer) → Above old f → StrMade s f
  unfolding graft_str resolve_str
  str_made s f a =
      let r = intern_answers f.interner s a.sound in
      let id = (intern f.interner s).id in
      let strings = (intern f.interner s).state.strings in
      let inside : Later (graft_str s f).1 g → f.string_offset + id < length old.strings + length g.interner.strings =
      λ l. omega (arith, a.strings, r.inside, prefix_length l.strings) in
      record {
        made = record {
          above = record { strings = a.strings; contents = a.contents; segments = a.segments; sound = r.sound };
          later = record { strings = record { more = r.more; grown = r.grown }; contents = prefix_refl; segments = prefix_refl };
        };
        pools = λ h p. record {
          strings = ap (all good_string) r.grown ∙ all_append good_string f.interner.strings r.more p.strings (r.only good_string h);
          contents = p.contents;
          segments = p.segments;
        };
        shows = λ l.
            ap (λ (k : ℕ). get_or (old.strings ++ g.interner.strings) (k + id) []) a.strings
            ∙ get_or-append-add old.strings g.interner.strings id []
            ∙ ap (λ (x : List (List ℕ)). get_or x id []) l.strings.grown
            ∙ get_or-append strings l.strings.more [] id r.inside
            ∙ r.shows;
        ok = λ l. numbered.string (f.string_offset + id) (inside l);
        below = λ l. omega (arith, inside l, numbered.strings);
      }

  -- a run behind a pool's first part, in a later state of the pool
  run_behind : {A : Type 0} (start : ℕ) (a p r g : List A) → start ≡ length a → Prefix (p ++ r) g → take (length r) (drop (start + length p) (a ++ g)) ≡ r
  run_behind {A} start a p r g h l =
      ap₂ (λ (k : ℕ) (x : List A). take (length r) (drop (k + length p) (a ++ x))) h l.grown
      ∙ ap (take (length r)) (drop-append-add a ((p ++ r) ++ l.more) (length p) ∙ ap (drop (length p)) (append_assoc p r l.more) ∙ drop-append_seam p (r ++ l.more))
      ∙ take-append_seam r l.more

  -- a run that was pushed, from f to f'
  record RunMade {A : Type 0} (f f' : NewLayer) (start : ℕ) (xs : List A) (sizes : List ℕ) (resolve : ℕ → ℕ → List A) : Type 0 where
    pub made : Made old f f'
    pub shows : Later f' g → resolve start (length xs) ≡ xs
    pub ok : Later f' g → range_ok sizes start (length xs) ≡ true
    pub starts : Later f' g → is_word start ≡ true
    pub counts : Later f' g → is_word (length xs) ≡ true

  run_made : {A : Type 0} (f f' : NewLayer) (offset : ℕ) (base pool xs final : List A) (sizes : List ℕ) → Made old f f' → offset ≡ length base → (Later f' g → Prefix (pool ++ xs) final)
      → ((a n : ℕ) → a + n ≤ length final → range_ok sizes (length base + a) n ≡ true) → length base + length final ≤ no_string
      → RunMade f f' (offset + length pool) xs sizes (λ a n. take n (drop a (base ++ final)))
  run_made f f' offset base pool xs final sizes made at grown range room =
      let inside : Later f' g → length pool + length xs ≤ length final = λ l. omega (arith, prefix_length (grown l), length-append pool xs) in
      record {
        made = made;
        shows = λ l. run_behind offset base pool xs final at (grown l);
        ok = λ l. rw at (range (length pool) (length xs) (inside l));
        starts = λ l. lt-ltb (offset + length pool) 4294967296 (omega (arith, inside l));
        counts = λ l. lt-ltb (length xs) 4294967296 (omega (arith, inside l));
      }

  contents_made : (cs : List Content) (f : NewLayer) → Above old f → RunMade f (push_contents cs f).1 (push_contents cs f).0 cs (content_counts ls) (resolve_content_range st)
  unfolding push_contents resolve_content_range
  contents_made cs f a =
      run_made f (push_contents cs f).1 f.content_offset old.contents f.contents cs g.contents (content_counts ls) (record {
        above = record { strings = a.strings; contents = a.contents; segments = a.segments; sound = a.sound };
        later = record { strings = prefix_refl; contents = record { more = cs; grown = refl }; segments = prefix_refl };
      }) a.contents (λ l. l.contents) numbered.content numbered.contents

  segments_made : (ss : List Segment) (f : NewLayer) → Above old f → RunMade f (push_segments ss f).1 (push_segments ss f).0 ss (segment_counts ls) (resolve_seg_range st)
  unfolding push_segments resolve_seg_range
  segments_made ss f a =
      run_made f (push_segments ss f).1 f.segment_offset old.segments f.segments ss g.segments (segment_counts ls) (record {
        above = record { strings = a.strings; contents = a.contents; segments = a.segments; sound = a.sound };
        later = record { strings = prefix_refl; contents = prefix_refl; segments = record { more = ss; grown = refl } };
      }) a.segments (λ l. l.segments) numbered.segment numbered.segments

  contents_pools : (cs : List Content) (f : NewLayer) → all good_content cs ≡ true → Pools f → Pools (push_contents cs f).1
  unfolding push_contents
  contents_pools cs f h p = record { strings = p.strings; contents = all_append good_content f.contents cs p.contents h; segments = p.segments }

  segments_pools : (ss : List Segment) (f : NewLayer) → all good_segment ss ≡ true → Pools f → Pools (push_segments ss f).1
  unfolding push_segments
  segments_pools ss f h p = record { strings = p.strings; contents = p.contents; segments = all_append good_segment f.segments ss p.segments h }

  -- ---- what is made of a tree, and what holds of it once g is a later state

  pub record FieldsGood (fs : Fields) (l : ℕ) (xs : List Field) (ws : List ℕ) (f : NewLayer) : Type 0 where
    pub words : all is_word ws ≡ true → all is_word (graft_fields fs ws f).0 ≡ true
    pub pools : Pools f → Pools (graft_fields fs ws f).1
    pub shows : (b : Body) → b.words ≡ (graft_fields fs ws f).0 → show_fields (λ x. inner l st x) st b xs ≡ fs
    pub ids : (b : Body) → b.words ≡ (graft_fields fs ws f).0 → all (field_ok ls b) xs ≡ true

  pub record FieldsMade (fs : Fields) (l : ℕ) (xs : List Field) (ws : List ℕ) (f : NewLayer) : Type 0 where
    pub made : Made old f (graft_fields fs ws f).1
    pub six : length (graft_fields fs ws f).0 ≡ 6
    pub kept : Keeps xs ws (graft_fields fs ws f).0
    pub good : Later (graft_fields fs ws f).1 g → FieldsGood fs l xs ws f

  record TreeGood (t : Tree) (l : ℕ) (f : NewLayer) : Type 0 where
    pub words : operands_fit six_words (graft_node t f).0.words ≡ true
    pub unused : unused_zero (fields_of (graft_node t f).0) 0 (graft_node t f).0.words ≡ true
    pub pools : Pools f → Pools (graft_node t f).1
    pub shows : show_with (λ x. inner l st x) st (fields_of (graft_node t f).0) (graft_node t f).0 ≡ t
    pub ids : all (field_ok ls (graft_node t f).0) (fields_of (graft_node t f).0) ≡ true

  record TreeMade (t : Tree) (l : ℕ) (f : NewLayer) : Type 0 where
    pub made : Made old f (graft_node t f).1
    pub good : Later (graft_node t f).1 g → TreeGood t l f

  record ContentsGood (cs : Contents) (l : ℕ) (f : NewLayer) : Type 0 where
    pub pools : Pools f → Pools (graft_contents cs f).1
    pub shows : show_contents (λ x. inner l st x) st (graft_contents cs f).0 ≡ cs
    pub items : all good_content (graft_contents cs f).0 ≡ true

  record ContentsMade (cs : Contents) (l : ℕ) (f : NewLayer) : Type 0 where
    pub made : Made old f (graft_contents cs f).1
    pub good : Later (graft_contents cs f).1 g → ContentsGood cs l f

  record SegmentsGood (ss : Segments) (l : ℕ) (f : NewLayer) : Type 0 where
    pub pools : Pools f → Pools (graft_segments ss f).1
    pub shows : show_segments (λ x. inner l st x) (graft_segments ss f).0 ≡ ss
    pub items : all good_segment (graft_segments ss f).0 ≡ true

  record SegmentsMade (ss : Segments) (l : ℕ) (f : NewLayer) : Type 0 where
    pub made : Made old f (graft_segments ss f).1
    pub good : Later (graft_segments ss f).1 g → SegmentsGood ss l f

  -- ---- fields

  -- a word that was set: it is still there, and it is the id
  here : (xs : List Field) (ws final : List ℕ) (i v : ℕ) → length ws ≡ 6 → free i xs ≡ true → Keeps xs (set ws i v) final → (b : Body) → b.words ≡ final → word_of b i ≡ v
  here xs ws final i v six fr k b e = ap (λ (x : List ℕ). get_or x i 0) e ∙ word_kept xs ws final i v six fr k

  -- a string's field, which may be one that may be missing
  string_word : (may : Bool) (i v : ℕ) (xs : List Field) (ws final : List ℕ) → length ws ≡ 6 → distinct (string_field may i ∷ xs) ≡ true → Keeps xs (set ws i v) final
      → Keeps (string_field may i ∷ xs) ws final × ((b : Body) → b.words ≡ final → word_of b i ≡ v)
  string_word true i v xs ws final six d k = (one_kept xs ws final i v k, here xs ws final i v six (both (free i xs) (distinct xs) d).0 k)
  string_word false i v xs ws final six d k = (one_kept xs ws final i v k, here xs ws final i v six (both (free i xs) (distinct xs) d).0 k)

  string_shows : (may : Bool) (i v : ℕ) (s : List ℕ) (fs : Fields) (l : ℕ) (xs : List Field) (b : Body) → word_of b i ≡ v → v < no_string → resolve_str st v ≡ s
      → show_fields (λ x. inner l st x) st b xs ≡ fs → show_fields (λ x. inner l st x) st b (string_field may i ∷ xs) ≡ text i s fs
  unfolding show_fields
  string_shows true i v s fs l xs b h k x y = rw (h, ne_eqb v no_string (omega arith), x, y)
  string_shows false i v s fs l xs b h k x y = rw (h, x, y)

  string_ids : (may : Bool) (i v : ℕ) (xs : List Field) (b : Body) → word_of b i ≡ v → v < no_string → id_ok (string_counts ls) v ≡ true → all (field_ok ls b) xs ≡ true → all (field_ok ls b) (string_field may i ∷ xs) ≡ true
  unfolding field_ok
  string_ids true i v xs b h k x y = rw (h, ne_eqb v no_string (omega arith), x, y)
  string_ids false i v xs b h k x y = rw (h, x, y)

  text_done : (may : Bool) (i : ℕ) (s : List ℕ) (fs : Fields) (l : ℕ) (xs : List Field) (ws : List ℕ) (f : NewLayer) → Above old f → length ws ≡ 6 → good_string s ≡ true
      → FieldsMade fs l xs (set ws i (graft_str s f).0) (graft_str s f).1
      → distinct (string_field may i ∷ xs) ≡ true → FieldsMade (text i s fs) l (string_field may i ∷ xs) ws f
  unfolding graft_fields
  text_done may i s fs l xs ws f a six h rest d =
      let r = str_made s f a in
      let v = (graft_str s f).0 in
      let f₁ = (graft_str s f).1 in
      let final = graft_fields fs (set ws i v) f₁ in
      let set_at = string_word may i v xs ws final.0 six d rest.kept in
      record {
        made = made_trans r.made rest.made;
        six = rest.six;
        kept = set_at.0;
        good = λ lt.
            let since = later_trans rest.made.later lt in
            let more = rest.good lt in
            record {
              words = λ w. more.words (all_set is_word ws i v w (lt-ltb v 4294967296 (omega (arith, r.below since))));
              pools = λ p. more.pools (r.pools h p);
              shows = λ b e. string_shows may i v s fs l xs b (set_at.1 b e) (r.below since) (r.shows since) (more.shows b e);
              ids = λ b e. string_ids may i v xs b (set_at.1 b e) (r.below since) (r.ok since) (more.ids b e);
            };
      }

  absent_done : (i : ℕ) (fs : Fields) (l : ℕ) (xs : List Field) (ws : List ℕ) (f : NewLayer) → length ws ≡ 6
      → FieldsMade fs l xs (set ws i no_string) f
      → distinct (opt_str i ∷ xs) ≡ true → FieldsMade (absent i fs) l (opt_str i ∷ xs) ws f
  unfolding graft_fields show_fields field_ok
  absent_done i fs l xs ws f six rest d =
      let final = graft_fields fs (set ws i no_string) f in
      let is : (b : Body) → b.words ≡ final.0 → word_of b i ≡ no_string = here xs ws final.0 i no_string six (both (free i xs) (distinct xs) d).0 rest.kept in
      record {
        made = rest.made;
        six = rest.six;
        kept = one_kept xs ws final.0 i no_string rest.kept;
        good = λ lt. let more = rest.good lt in record {
          words = λ w. more.words (all_set is_word ws i no_string w refl);
          pools = more.pools;
          shows = λ b e. rw (is b e, more.shows b e);
          ids = λ b e. rw (is b e, more.ids b e);
        };
      }

  -- start and length of a run
  record Placed (i v n : ℕ) (xs : List Field) (ws final : List ℕ) : Type 0 where
    pub kept : (j : ℕ) → (eqb j i || eqb j (i + 1)) || any (uses_word j) xs ≡ false → get_or final j 0 ≡ get_or ws j 0
    pub start : (b : Body) → b.words ≡ final → word_of b i ≡ v
    pub count : (b : Body) → b.words ≡ final → word_of b (i + 1) ≡ n

  placed : (i v n : ℕ) (xs : List Field) (ws final : List ℕ) → length ws ≡ 6 → free i xs && (free (i + 1) xs && distinct xs) ≡ true → Keeps xs (set (set ws i v) (i + 1) n) final → Placed i v n xs ws final
  placed i v n xs ws final six d k =
      let d₁ = both (free i xs) (free (i + 1) xs && distinct xs) d in
      let d₂ = both (free (i + 1) xs) (distinct xs) d₁.1 in
      record {
        kept = two_kept xs ws final i v n k;
        start = λ b e. ap (λ (x : List ℕ). get_or x i 0) e ∙ first_kept xs ws final i v n six d₁.0 k;
        count = here xs (set ws i v) final (i + 1) n (length-set ws i v ∙ six) d₂.0 k;
      }

  two_words : (ws : List ℕ) (i v n : ℕ) → is_word v ≡ true → is_word n ≡ true → all is_word ws ≡ true → all is_word (set (set ws i v) (i + 1) n) ≡ true
  two_words ws i v n x y w = all_set is_word (set ws i v) (i + 1) n (all_set is_word ws i v w x) y

  contents_done : (i : ℕ) (cs : Contents) (fs : Fields) (l : ℕ) (xs : List Field) (ws : List ℕ) (f : NewLayer) → length ws ≡ 6
      → (m : ContentsMade cs l f)
      → (let r = graft_contents cs f in let at = push_contents r.0 r.1 in FieldsMade fs l xs (set (set ws i at.0) (i + 1) (length r.0)) at.1)
      → distinct (content_range i ∷ xs) ≡ true → FieldsMade (contents i cs fs) l (content_range i ∷ xs) ws f
  unfolding graft_fields show_fields field_ok
  contents_done i cs fs l xs ws f six m rest d =
      let r = graft_contents cs f in
      let at = push_contents r.0 r.1 in
      let run = contents_made r.0 r.1 m.made.above in
      let final = graft_fields fs (set (set ws i at.0) (i + 1) (length r.0)) at.1 in
      let set_at = placed i at.0 (length r.0) xs ws final.0 six d rest.kept in
      record {
        made = made_trans m.made (made_trans run.made rest.made);
        six = rest.six;
        kept = set_at.kept;
        good = λ lt.
            let since = later_trans rest.made.later lt in
            let inside = m.good (later_trans run.made.later since) in
            let more = rest.good lt in
            record {
              words = λ w. more.words (two_words ws i at.0 (length r.0) (run.starts since) (run.counts since) w);
              pools = λ p. more.pools (contents_pools r.0 r.1 inside.items (inside.pools p));
              shows = λ b e. rw (set_at.start b e, set_at.count b e, run.shows since, inside.shows, more.shows b e);
              ids = λ b e. rw (set_at.start b e, set_at.count b e, run.ok since, more.ids b e);
            };
      }

  segments_done : (i : ℕ) (ss : Segments) (fs : Fields) (l : ℕ) (xs : List Field) (ws : List ℕ) (f : NewLayer) → length ws ≡ 6
      → (m : SegmentsMade ss l f)
      → (let r = graft_segments ss f in let at = push_segments r.0 r.1 in FieldsMade fs l xs (set (set ws i at.0) (i + 1) (length r.0)) at.1)
      → distinct (seg_range i ∷ xs) ≡ true → FieldsMade (segments i ss fs) l (seg_range i ∷ xs) ws f
  unfolding graft_fields show_fields field_ok
  segments_done i ss fs l xs ws f six m rest d =
      let r = graft_segments ss f in
      let at = push_segments r.0 r.1 in
      let run = segments_made r.0 r.1 m.made.above in
      let final = graft_fields fs (set (set ws i at.0) (i + 1) (length r.0)) at.1 in
      let set_at = placed i at.0 (length r.0) xs ws final.0 six d rest.kept in
      record {
        made = made_trans m.made (made_trans run.made rest.made);
        six = rest.six;
        kept = set_at.kept;
        good = λ lt.
            let since = later_trans rest.made.later lt in
            let inside = m.good (later_trans run.made.later since) in
            let more = rest.good lt in
            record {
              words = λ w. more.words (two_words ws i at.0 (length r.0) (run.starts since) (run.counts since) w);
              pools = λ p. more.pools (segments_pools r.0 r.1 inside.items (inside.pools p));
              shows = λ b e. rw (set_at.start b e, set_at.count b e, run.shows since, inside.shows, more.shows b e);
              ids = λ b e. rw (set_at.start b e, set_at.count b e, run.ok since, more.ids b e);
            };
      }

  -- ---- contents

  plain_good : (v : ℕ) → v < no_string → id_ok (string_counts ls) v ≡ true → good_content (record { tag = 0; first = v; second = 0 }) ≡ true
  unfolding content_shape content_ok record_fits content_codec operands_fit
  plain_good v w i = rw (i, lt-ltb v 4294967296 (omega arith))

  run_good : (v n : ℕ) → is_word v ≡ true → is_word n ≡ true → range_ok (segment_counts ls) v n ≡ true → good_content (record { tag = 1; first = v; second = n }) ≡ true
  unfolding content_shape content_ok record_fits content_codec operands_fit
  run_good v n w x i = rw (w, x, i)

  plain_done : (s : List ℕ) (cs : Contents) (l : ℕ) (f : NewLayer) → Above old f → good_string s ≡ true → ContentsMade cs l (graft_str s f).1 → ContentsMade (plain s cs) l f
  unfolding graft_contents show_contents
  plain_done s cs l f a h rest =
      let r = str_made s f a in
      let f₁ = (graft_str s f).1 in
      let final = graft_contents cs f₁ in
      record {
        made = made_trans r.made rest.made;
        good = λ lt.
            let since = later_trans rest.made.later lt in
            let more = rest.good lt in
            record {
              pools = λ p. more.pools (r.pools h p);
              shows = rw (r.shows since, more.shows);
              items = join (good_content (record { tag = 0; first = (graft_str s f).0; second = 0 })) (all good_content final.0) (plain_good (graft_str s f).0 (r.below since) (r.ok since)) more.items;
            };
      }

  segmented_done : (ss : Segments) (cs : Contents) (l : ℕ) (f : NewLayer) → (m : SegmentsMade ss l f)
      → (let r = graft_segments ss f in let at = push_segments r.0 r.1 in ContentsMade cs l at.1)
      → ContentsMade (segmented ss cs) l f
  unfolding graft_contents show_contents
  segmented_done ss cs l f m rest =
      let r = graft_segments ss f in
      let at = push_segments r.0 r.1 in
      let run = segments_made r.0 r.1 m.made.above in
      let final = graft_contents cs at.1 in
      record {
        made = made_trans m.made (made_trans run.made rest.made);
        good = λ lt.
            let since = later_trans rest.made.later lt in
            let inside = m.good (later_trans run.made.later since) in
            let more = rest.good lt in
            record {
              pools = λ p. more.pools (segments_pools r.0 r.1 inside.items (inside.pools p));
              shows = rw (run.shows since, inside.shows, more.shows);
              items = join (good_content (record { tag = 1; first = at.0; second = length r.0 })) (all good_content final.0) (run_good at.0 (length r.0) (run.starts since) (run.counts since) (run.ok since)) more.items;
            };
      }

  -- ---- segments and trees

  segment_good : (tag level : ℕ) (t : Tree) (l : ℕ) (f : NewLayer) → segment_from tag level t ≡ true → TreeGood t l f → good_segment (record { tag = tag; level = level; body = (graft_node t f).0 }) ≡ true
  unfolding record_fits segment_codec segment_shape body_shape segment_ok graft_node
  segment_good tag level (tree kind k p₁ p₂ fs) l f h m =
      let head = operands_fit segment_head (tag ∷ level ∷ kind ∷ k ∷ p₁ ∷ p₂ ∷ []) in
      let s : Segment = record { tag = tag; level = level; body = (graft_node (tree kind k p₁ p₂ fs) f).0 } in
      let h₁ = both head _ h in
      let h₂ = both (tag_kind tag kind) _ h₁.1 in
      let h₃ = both (ltb k (get_or tag_counts kind 0)) (level_from tag level (tree kind k p₁ p₂ fs)) h₂.1 in
      join (record_fits segment_codec s) (segment_shape s && (level_ok st s && segment_ok ls s)) (fit h₁.0)
      (join (segment_shape s) (level_ok st s && segment_ok ls s) (shape h₂.0 h₃.0) (join (level_ok st s) (segment_ok ls s) (level_shown (λ x. inner l st x) st s ∙ ap (level_from tag level) m.shows ∙ h₃.1) ids))
    where
      fit : operands_fit segment_head (tag ∷ level ∷ kind ∷ k ∷ p₁ ∷ p₂ ∷ []) ≡ true → record_fits segment_codec (record { tag = tag; level = level; body = (graft_node (tree kind k p₁ p₂ fs) f).0 }) ≡ true
      fit x = operands_append segment_head six_words (tag ∷ level ∷ kind ∷ k ∷ p₁ ∷ p₂ ∷ []) (graft_node (tree kind k p₁ p₂ fs) f).0.words x m.words

      shape : tag_kind tag kind ≡ true → ltb k (get_or tag_counts kind 0) ≡ true → segment_shape (record { tag = tag; level = level; body = (graft_node (tree kind k p₁ p₂ fs) f).0 }) ≡ true
      shape x y = rw (x, y, m.unused)

      ids : segment_ok ls (record { tag = tag; level = level; body = (graft_node (tree kind k p₁ p₂ fs) f).0 }) ≡ true
      ids = m.ids

  segment_done : (tag level : ℕ) (t : Tree) (ss : Segments) (l : ℕ) (f : NewLayer) → segment_from tag level t ≡ true → (m : TreeMade t l f)
      → SegmentsMade ss (suc l) (graft_node t f).1 → SegmentsMade (segment tag level t ss) (suc l) f
  unfolding graft_segments show_segments
  segment_done tag level t ss l f h m rest =
      let r = graft_node t f in
      let final = graft_segments ss r.1 in
      record {
        made = made_trans m.made rest.made;
        good = λ lt.
            let one = m.good (later_trans rest.made.later lt) in
            let more = rest.good lt in
            record {
              pools = λ p. more.pools (one.pools p);
              shows = rw (show_body_lem l st r.0, one.shows, more.shows);
              items = join (good_segment (record { tag = tag; level = level; body = r.0 })) (all good_segment final.0) (segment_good tag level t l f h one) more.items;
            };
      }

  tree_done : (kind tag p₁ p₂ : ℕ) (fs : Fields) (l : ℕ) (f : NewLayer)
      → FieldsMade fs l (get_or (field_table tag) kind []) (replicate 6 0) f → TreeMade (tree kind tag p₁ p₂ fs) l f
  unfolding graft_node show_with fields_of
  tree_done kind tag p₁ p₂ fs l f m = record {
    made = m.made;
    good = λ lt.
        let x = m.good lt in
        let ws = (graft_fields fs (replicate 6 0) f).0 in
        let b : Body = record { kind = kind; tag = tag; plain1 = p₁; plain2 = p₂; words = ws } in
        record {
          words = six_fit 6 ws m.six (x.words refl);
          unused = unused_kept (get_or (field_table tag) kind []) ws m.kept;
          pools = x.pools;
          shows = ap (λ (y : Fields). tree kind tag p₁ p₂ y) (x.shows b refl);
          ids = x.ids b refl;
        };
  }

  nothing_made : (f : NewLayer) → Above old f → Made old f f
  nothing_made f a = record { above = a; later = later_refl f }

  done_done : (l : ℕ) (ws : List ℕ) (f : NewLayer) → Above old f → length ws ≡ 6 → FieldsMade done l [] ws f
  unfolding graft_fields show_fields
  done_done l ws f a six = record {
    made = nothing_made f a;
    six = six;
    kept = λ j e. refl;
    good = λ lt. record { words = λ w. w; pools = λ p. p; shows = λ b e. refl; ids = λ b e. refl };
  }

  no_content_lem : (l : ℕ) (f : NewLayer) → Above old f → ContentsMade no_content l f
  unfolding graft_contents show_contents
  no_content_lem l f a = record { made = nothing_made f a; good = λ lt. record { pools = λ p. p; shows = refl; items = refl } }

  no_segment_lem : (l : ℕ) (f : NewLayer) → Above old f → SegmentsMade no_segment l f
  unfolding graft_segments show_segments
  no_segment_lem l f a = record { made = nothing_made f a; good = λ lt. record { pools = λ p. p; shows = refl; items = refl } }

  mutual
    graft_tree : (t : Tree) (l : ℕ) → TreeOf t l → (f : NewLayer) → Above old f → TreeMade t l f
    graft_tree (tree kind tag p₁ p₂ fs) l ok f a =
        tree_done kind tag p₁ p₂ fs l f (graft_fields_lem fs l (get_or (field_table tag) kind []) ok (replicate 6 0) f a refl (table_distinct tag kind))

    -- Grafting adds to the layer; in a later state what was grafted shows the fields, and passes.
    pub graft_fields_lem : (fs : Fields) (l : ℕ) (xs : List Field) → FieldsOf fs l xs → (ws : List ℕ) (f : NewLayer) → Above old f → length ws ≡ 6 → distinct xs ≡ true
        → FieldsMade fs l xs ws f
    graft_fields_lem done l xs ok ws f a six d = subst (λ (ys : List Field). FieldsMade done l ys ws f) (sym ok) (done_done l ws f a six)
    graft_fields_lem (text i s fs) l xs ok ws f a six d =
        let ys = ok.1 in
        let d' = subst (λ (zs : List Field). distinct zs ≡ true) ok.2 d in
        subst (λ (zs : List Field). FieldsMade (text i s fs) l zs ws f) (sym ok.2)
        (text_done ok.0 i s fs l ys ws f a six ok.3
        (graft_fields_lem fs l ys ok.4 (set ws i (graft_str s f).0) (graft_str s f).1 (str_made s f a).made.above (length-set ws i (graft_str s f).0 ∙ six) (rest_distinct ok.0 i ys d')) d')
    graft_fields_lem (absent i fs) l xs ok ws f a six d =
        let ys = ok.0 in
        let d' = subst (λ (zs : List Field). distinct zs ≡ true) ok.1 d in
        subst (λ (zs : List Field). FieldsMade (absent i fs) l zs ws f) (sym ok.1)
        (absent_done i fs l ys ws f six
        (graft_fields_lem fs l ys ok.2 (set ws i no_string) f a (length-set ws i no_string ∙ six) (rest_distinct true i ys d')) d')
    graft_fields_lem (contents i cs fs) l xs ok ws f a six d =
        let ys = ok.0 in
        let d' = subst (λ (zs : List Field). distinct zs ≡ true) ok.1 d in
        let m = graft_contents_lem cs l ok.2 f a in
        let r = graft_contents cs f in
        let at = push_contents r.0 r.1 in
        subst (λ (zs : List Field). FieldsMade (contents i cs fs) l zs ws f) (sym ok.1)
        (contents_done i cs fs l ys ws f six m
        (graft_fields_lem fs l ys ok.3 (set (set ws i at.0) (i + 1) (length r.0)) at.1 (contents_made r.0 r.1 m.made.above).made.above (two_six ws i at.0 (length r.0) six) (run_distinct i ys d')) d')
    graft_fields_lem (segments i ss fs) l xs ok ws f a six d =
        let ys = ok.0 in
        let d' = subst (λ (zs : List Field). distinct zs ≡ true) ok.1 d in
        let m = graft_segments_lem ss l ok.2 f a in
        let r = graft_segments ss f in
        let at = push_segments r.0 r.1 in
        subst (λ (zs : List Field). FieldsMade (segments i ss fs) l zs ws f) (sym ok.1)
        (segments_done i ss fs l ys ws f six m
        (graft_fields_lem fs l ys ok.3 (set (set ws i at.0) (i + 1) (length r.0)) at.1 (segments_made r.0 r.1 m.made.above).made.above (two_six ws i at.0 (length r.0) six) (run_distinct i ys d')) d')

    graft_contents_lem : (cs : Contents) (l : ℕ) → ContentsOf cs l → (f : NewLayer) → Above old f → ContentsMade cs l f
    graft_contents_lem no_content l ok f a = no_content_lem l f a
    graft_contents_lem (plain s cs) l ok f a = plain_done s cs l f a ok.0 (graft_contents_lem cs l ok.1 (graft_str s f).1 (str_made s f a).made.above)
    graft_contents_lem (segmented ss cs) l ok f a =
        let m = graft_segments_lem ss l ok.0 f a in
        let r = graft_segments ss f in
        segmented_done ss cs l f m (graft_contents_lem cs l ok.1 (push_segments r.0 r.1).1 (segments_made r.0 r.1 m.made.above).made.above)

    graft_segments_lem : (ss : Segments) (l : ℕ) → SegmentsOf ss l → (f : NewLayer) → Above old f → SegmentsMade ss l f
    graft_segments_lem no_segment l ok f a = no_segment_lem l f a
    graft_segments_lem (segment tag level t ss) zero ok f a = absurd ok
    graft_segments_lem (segment tag level t ss) (suc l) ok f a =
        let m = graft_tree t l ok.1 f a in
        segment_done tag level t ss l f ok.0 m (graft_segments_lem ss (suc l) ok.2 (graft_node t f).1 m.made.above)
