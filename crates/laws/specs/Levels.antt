-- A reading that passes 1, 2 and 5 shows trees as the law of grafting asks them: 32 levels are enough. So a grafted node shows,
-- in every later state of the new layer, what it showed in the reading, and passes.
use Rattle.std.specs.Prelude.{◌≡◌, ◌⊎◌, Bool, ◌&&◌, ◌||◌, get_or, drop, replicate}
use Rattle.std.proofs.Math.Path.{refl, sym, ap, ap₂, subst}
use Rattle.std.proofs.Common.{◌∙◌, arith}
use Rattle.std.proofs.Math.Logic.{inl, inr}
use Prim.Native.Nat.{ℕ, zero, suc, ◌+◌, ◌≤◌}
use Rattle.std.proofs.Math.Bool.{true, false, cond}
use Rattle.std.proofs.lemmas.Bool.{false≢true}
use mathlib.Core.List.{List, [], ◌∷◌, ◌++◌, map, flatten}
use Rattle.std.proofs.Math.Dec.{eqb, leb, ltb}
use borrow.Author.Tests.{eqb-true, ne_eqb, leb-true, ltb-true, lt-ltb}
use Rattle.model.specs.Lists.{all}
use Rattle.model.specs.Limits.{no_string, max_level}
use Rattle.model.specs.Utf8.{utf8, utf8_from, is_between}
use Rattle.model.specs.Types.{Body, Content, Segment, Layer, SourceNode}
use Rattle.model.specs.Tape.{Operand, Operand.byte, Operand.word, Field, Field.str, Field.opt_str, Field.content_range, Field.seg_range, segment_codec, node_codec, field_table, fields_of, node_fields, tag_counts, unused_zero, body_shape, segment_shape, node_shape}
use Rattle.model.specs.Store.{NodeStore, resolve_str, resolve_content_range, resolve_seg_range}
use Rattle.model.specs.WellFormed.{word_of, content_segments, field_segments, level_ok, node_ok}
use Rattle.model.specs.Tree.{Tree, Fields.text, Fields.absent}
use Rattle.model.specs.Tree.{Contents.plain, Contents.segmented}
use Rattle.model.specs.Tree.{show_segments, show_contents, show_fields, show_with, show_node, ShownNode, shown_node}
use Rattle.model.specs.Graft.{NewLayer, graft_node, graft_fields, graft_node_ref, graft_node_refs}
use Rattle.facts.specs.Truth.{both, join, and_false}
use Rattle.facts.specs.Keep.{all_take, all_drop, all_append, all_left, all_right, all_map, all_get}
use Rattle.laws.specs.Fits.{operands_fit, record_fits}
use Rattle.laws.specs.Graft.{inner, show_body_lem, TreeOf, FieldsOf, ContentsOf, SegmentsOf, distinct, table_distinct, with_layer, Above, Later, later_refl, later_trans, Made, made_trans, Numbered, Pools, good_string, tag_kind, segment_head, six_words, segment_from, level_shown, operands_append, operands_left, graft_fields_lem, six_fit, unused_kept}

-- a node with other words
abbrev with_words : SourceNode → List ℕ → SourceNode
with_words n ws = record {
  class = n.class;
  inline = n.inline;
  source_span = n.source_span;
  normalized_offset = n.normalized_offset;
  body = record { kind = n.body.kind; tag = n.body.tag; plain1 = n.body.plain1; plain2 = n.body.plain2; words = ws };
}

node_fits_lem : (n : SourceNode) (ws : List ℕ) → operands_fit six_words ws ≡ true → record_fits node_codec n ≡ true
    → record_fits node_codec (with_words n ws) ≡ true
unfolding record_fits node_codec
node_fits_lem n ws h e =
    let os : List Operand = byte ∷ byte ∷ word ∷ word ∷ word ∷ byte ∷ byte ∷ word ∷ word ∷ [] in
    let vs = n.class ∷ n.inline ∷ n.source_span.start ∷ n.source_span.end ∷ n.normalized_offset ∷ n.body.kind ∷ n.body.tag ∷ n.body.plain1 ∷ n.body.plain2 ∷ [] in
    operands_append os six_words vs ws (operands_left os six_words vs n.body.words refl e) h

node_shape_lem : (n : SourceNode) (ws : List ℕ) → unused_zero (node_fields n) 0 ws ≡ true → node_shape n ≡ true
    → node_shape (with_words n ws) ≡ true
unfolding node_shape body_shape node_fields fields_of
node_shape_lem n ws h e =
    let c = (ltb n.class 2 && leb 1 n.body.kind && eqb n.inline 0) || (leb 2 n.class && ltb n.class 4 && eqb n.body.kind 0 && ltb n.inline 2) in
    let t = ltb n.body.tag (get_or tag_counts n.body.kind 0) in
    let u = both c (t && unused_zero (node_fields n) 0 n.body.words) e in
    join c (t && unused_zero (node_fields n) 0 ws) u.0 (join t (unused_zero (node_fields n) 0 ws) (both t (unused_zero (node_fields n) 0 n.body.words) u.1).0 h)

-- every level is below l
abbrev low : ℕ → Segment → Bool
low l s = ltb s.level l

low_more : (l m : ℕ) → l ≤ m → (s : Segment) → low l s ≡ true → low m s ≡ true
low_more l m h s e = lt-ltb s.level m (omega (arith, ltb-true s.level l e))

module _ (st : NodeStore) where
  -- the levels in the runs that these fields of a body name are below l
  abbrev Named : Body → List Field → ℕ → Type 0
  Named b xs l = all (λ (x : Field). all (low l) (field_segments st b x)) xs ≡ true

  -- a segment that fits its record, and passes the layout and the levels
  abbrev pub good : Segment → Bool
  good s = record_fits segment_codec s && (segment_shape s && level_ok st s)

  -- segments of tags 0, 1 and 2 name no runs
  quiet : (b : Body) (l : ℕ) → (b.kind ≡ 0) ⊎ ((b.kind ≡ 3) ⊎ (b.kind ≡ 13)) → Named b (fields_of b) l
  unfolding fields_of field_table field_segments
  quiet b l (inl e) = ap (λ (k : ℕ). all (λ (x : Field). all (low l) (field_segments st b x)) (get_or (field_table b.tag) k [])) e
  quiet b l (inr (inl e)) =
      ap (λ (k : ℕ). all (λ (x : Field). all (low l) (field_segments st b x)) (get_or (field_table b.tag) k [])) e ∙ go (eqb b.tag 2)
    where
      go : (x : Bool) → all (λ (y : Field). all (low l) (field_segments st b y)) (cond x (opt_str 1 ∷ []) [] ++ (str 0 ∷ [])) ≡ true
      go true = refl
      go false = refl
  quiet b l (inr (inr e)) = ap (λ (k : ℕ). all (λ (x : Field). all (low l) (field_segments st b x)) (get_or (field_table b.tag) k [])) e

  -- the kinds of tags 0, 1 and 2
  plain_kind : (s : Segment) → segment_shape s ≡ true → ltb s.tag 3 ≡ true → (s.body.kind ≡ 0) ⊎ ((s.body.kind ≡ 3) ⊎ (s.body.kind ≡ 13))
  unfolding segment_shape
  plain_kind s e h =
      let t = ltb-true s.tag 3 h in
      let x : (eqb s.tag 0 && eqb s.body.kind 0) || (eqb s.tag 1 && eqb s.body.kind 3) || (eqb s.tag 2 && eqb s.body.kind 13) || false ≡ true =
      rw (ne_eqb s.tag 3 (omega arith)) at (both (tag_kind s.tag s.body.kind) _ e).0 in
      go (eqb s.tag 0) (eqb s.tag 1) (eqb s.tag 2) (eqb s.body.kind 0) refl (eqb s.body.kind 3) refl (eqb s.body.kind 13) refl x
    where
      go : (t₀ t₁ t₂ k₀ : Bool) → eqb s.body.kind 0 ≡ k₀ → (k₁ : Bool) → eqb s.body.kind 3 ≡ k₁ → (k₂ : Bool) → eqb s.body.kind 13 ≡ k₂ → (t₀ && k₀) || (t₁ && k₁) || (t₂ && k₂) || false ≡ true
          → (s.body.kind ≡ 0) ⊎ ((s.body.kind ≡ 3) ⊎ (s.body.kind ≡ 13))
      go t₀ t₁ t₂ true p₀ k₁ p₁ k₂ p₂ x = inl (eqb-true s.body.kind 0 p₀)
      go t₀ t₁ t₂ false p₀ true p₁ k₂ p₂ x = inr (inl (eqb-true s.body.kind 3 p₁))
      go t₀ t₁ t₂ false p₀ false p₁ true p₂ x = inr (inr (eqb-true s.body.kind 13 p₂))
      go t₀ t₁ t₂ false p₀ false p₁ false p₂ x = absurd (false≢true (sym (none t₀ t₁ t₂) ∙ x))
        where
          none : (t₀ t₁ t₂ : Bool) → (t₀ && false) || (t₁ && false) || (t₂ && false) || false ≡ false
          none t₀ t₁ t₂ = rw (and_false t₀ false refl, and_false t₁ false refl, and_false t₂ false refl)

  -- number 5 of a segment: its level is 0 or at most 32, and the levels in its runs are below it
  record LevelFacts (s : Segment) : Type 0 where
    pub top : s.level ≤ max_level
    pub runs : (ltb s.tag 3 ≡ true) ⊎ Named s.body (fields_of s.body) s.level

  level_facts : (s : Segment) → level_ok st s ≡ true → LevelFacts s
  unfolding level_ok
  level_facts s e = go (ltb s.tag 3) refl e
    where
      go : (x : Bool) → ltb s.tag 3 ≡ x → cond x (eqb s.level 0) (leb 1 s.level && leb s.level max_level && all (λ (f : Field). all (low s.level) (field_segments st s.body f)) (fields_of s.body)) ≡ true → LevelFacts s
      go true q e = record { top = omega (arith, eqb-true s.level 0 e); runs = inl q }
      go false q e =
          let d = both (leb 1 s.level && leb s.level max_level) _ e in
          record { top = leb-true s.level max_level (both (leb 1 s.level) (leb s.level max_level) d.0).1; runs = inr d.1 }

  good_level : (s : Segment) → good s ≡ true → (segment_shape s ≡ true) × (level_ok st s ≡ true)
  good_level s e = both (segment_shape s) (level_ok st s) (both (record_fits segment_codec s) _ e).1

  -- below a segment's own level
  segment_named : (s : Segment) (l : ℕ) → good s ≡ true → s.level ≤ l → Named s.body (fields_of s.body) l
  segment_named s l e h = go (level_facts s (good_level s e).1).runs
    where
      go : (ltb s.tag 3 ≡ true) ⊎ Named s.body (fields_of s.body) s.level → Named s.body (fields_of s.body) l
      go (inl q) = quiet s.body l (plain_kind s (good_level s e).0 q)
      go (inr d) =
          all_map (λ (f : Field). all (low s.level) (field_segments st s.body f)) (λ (f : Field). all (low l) (field_segments st s.body f))
          (λ f k. all_map (low s.level) (low l) (low_more s.level l h) (field_segments st s.body f) k) (fields_of s.body) d

  -- no level is above 32
  level_top : (s : Segment) → good s ≡ true → low 33 s ≡ true
  level_top s e = lt-ltb s.level 33 (omega (arith, (level_facts s (good_level s e).1).top))

  -- what a good segment says of the tree that its body shows
  segment_from_lem : (show : Body → Tree) (s : Segment) → good s ≡ true → segment_from s.tag s.level (show_with show st (fields_of s.body) s.body) ≡ true
  unfolding show_with segment_shape body_shape record_fits segment_codec
  segment_from_lem show s e =
      let b = s.body in
      let g = both (record_fits segment_codec s) _ e in
      let h = both (segment_shape s) (level_ok st s) g.1 in
      let u = both (tag_kind s.tag b.kind) _ h.0 in
      let v = both (ltb b.tag (get_or tag_counts b.kind 0)) (unused_zero (fields_of b) 0 b.words) u.1 in
      let o = operands_left segment_head six_words (s.tag ∷ s.level ∷ b.kind ∷ b.tag ∷ b.plain1 ∷ b.plain2 ∷ []) b.words refl g.0 in
      let l = sym (level_shown show st s) ∙ h.1 in
      rw (o, u.0, v.0) l

  module _ (strings : all good_string st.strings ≡ true) (pool : all good st.segments ≡ true) where
    string_good : (id : ℕ) → good_string (resolve_str st id) ≡ true
    unfolding resolve_str utf8 utf8_from is_between
    string_good id = all_get good_string st.strings id [] strings refl

    run_good : (start len : ℕ) → all good (resolve_seg_range st start len) ≡ true
    unfolding resolve_seg_range
    run_good start len = all_take good len (drop start st.segments) (all_drop good start st.segments pool)

    -- the fields that are shown l deep, where the levels are below l
    abbrev Shown : ℕ → Type 0
    Shown l = (b : Body) (xs : List Field) → Named b xs l → FieldsOf (show_fields (λ x. inner l st x) st b xs) l xs

    abbrev Before : ℕ → Type 0
    Before zero = Unit {0}
    Before (suc l) = Shown l

    segments_shown : (l : ℕ) → Before l → (ss : List Segment) → all (low l) ss ≡ true → all good ss ≡ true → SegmentsOf (show_segments (λ x. inner l st x) ss) l
    unfolding show_segments show_with fields_of
    segments_shown l before [] e g = tt
    segments_shown zero before (s ∷ ss) e g = absurd (none (both (low 0 s) (all (low 0) ss) e).0)
      where
        none : low 0 s ≡ true → ⊥
        none q = omega (arith, ltb-true s.level 0 q)
    segments_shown (suc l) before (s ∷ ss) e g =
        let k = both (low (suc l) s) (all (low (suc l)) ss) e in
        let h = both (good s) (all good ss) g in
        let shown : TreeOf (show_with (λ x. inner l st x) st (fields_of s.body) s.body) l = before s.body (fields_of s.body) (segment_named s l h.0 (omega (arith, ltb-true s.level (suc l) k.0))) in
        let e = sym (show_body_lem l st s.body) in (
          subst (λ (t : Tree). segment_from s.tag s.level t ≡ true) e (segment_from_lem (λ x. inner l st x) s h.0),
          subst (λ (t : Tree). TreeOf t l) e shown,
          segments_shown (suc l) before ss k.1 h.1,
        )

    contents_shown : (l : ℕ) → Before l → (cs : List Content) → all (low l) (flatten (map (content_segments st) cs)) ≡ true
        → ContentsOf (show_contents (λ x. inner l st x) st cs) l
    unfolding show_contents content_segments flatten
    contents_shown l before [] e = tt
    contents_shown l before (c ∷ cs) e = go (contents_shown l before cs (all_right (low l) (content_segments st c) (flatten (map (content_segments st) cs)) e)) (eqb c.tag 0) refl
      where
        mine : all (low l) (content_segments st c) ≡ true
        mine = all_left (low l) (content_segments st c) (flatten (map (content_segments st) cs)) e

        go : ContentsOf (show_contents (λ x. inner l st x) st cs) l → (x : Bool) → eqb c.tag 0 ≡ x
            → ContentsOf (cond x (plain (resolve_str st c.first) (show_contents (λ y. inner l st y) st cs))
            (segmented (show_segments (λ y. inner l st y) (resolve_seg_range st c.first c.second)) (show_contents (λ y. inner l st y) st cs))) l
        go rest true q = (string_good c.first, rest)
        go rest false q = (
          segments_shown l before (resolve_seg_range st c.first c.second)
              (ap (λ (x : Bool). all (low l) (cond x [] (resolve_seg_range st c.first c.second))) (sym q) ∙ mine)
              (run_good c.first c.second),
          rest,
        )

    fields_shown : (l : ℕ) → Before l → Shown l
    unfolding show_fields field_segments
    fields_shown l before b [] e = refl
    fields_shown l before b (str i ∷ xs) e = (false, xs, refl, string_good (word_of b i), fields_shown l before b xs e)
    fields_shown l before b (opt_str i ∷ xs) e = go (fields_shown l before b xs e) (eqb (word_of b i) no_string)
      where
        go : FieldsOf (show_fields (λ x. inner l st x) st b xs) l xs → (x : Bool)
            → FieldsOf (cond x (absent i (show_fields (λ y. inner l st y) st b xs)) (text i (resolve_str st (word_of b i)) (show_fields (λ y. inner l st y) st b xs))) l (opt_str i ∷ xs)
        go rest true = (xs, refl, rest)
        go rest false = (true, xs, refl, string_good (word_of b i), rest)
    fields_shown l before b (content_range i ∷ xs) e =
        let k = both (all (low l) (field_segments st b (content_range i))) (all (λ (x : Field). all (low l) (field_segments st b x)) xs) e in
        (xs, refl, contents_shown l before (resolve_content_range st (word_of b i) (word_of b (i + 1))) k.0, fields_shown l before b xs k.1)
    fields_shown l before b (seg_range i ∷ xs) e =
        let k = both (all (low l) (field_segments st b (seg_range i))) (all (λ (x : Field). all (low l) (field_segments st b x)) xs) e in
        (xs, refl, segments_shown l before (resolve_seg_range st (word_of b i) (word_of b (i + 1))) k.0 (run_good (word_of b i) (word_of b (i + 1))), fields_shown l before b xs k.1)

    all_shown : (l : ℕ) → Shown l
    all_shown zero = fields_shown zero tt
    all_shown (suc l) = fields_shown (suc l) (all_shown l)

    -- ---- a node

    run_low : (start len : ℕ) → all (low 33) (resolve_seg_range st start len) ≡ true
    run_low start len = all_map good (low 33) level_top (resolve_seg_range st start len) (run_good start len)

    contents_low : (cs : List Content) → all (low 33) (flatten (map (content_segments st) cs)) ≡ true
    unfolding content_segments flatten
    contents_low [] = refl
    contents_low (c ∷ cs) = all_append (low 33) (content_segments st c) (flatten (map (content_segments st) cs)) (go (eqb c.tag 0)) (contents_low cs)
      where
        go : (x : Bool) → all (low 33) (cond x [] (resolve_seg_range st c.first c.second)) ≡ true
        go true = refl
        go false = run_low c.first c.second

    fields_low : (b : Body) (xs : List Field) → Named b xs 33
    unfolding field_segments
    fields_low b [] = refl
    fields_low b (str i ∷ xs) = fields_low b xs
    fields_low b (opt_str i ∷ xs) = fields_low b xs
    fields_low b (content_range i ∷ xs) =
        join (all (low 33) (field_segments st b (content_range i))) _ (contents_low (resolve_content_range st (word_of b i) (word_of b (i + 1)))) (fields_low b xs)
    fields_low b (seg_range i ∷ xs) =
        join (all (low 33) (field_segments st b (seg_range i))) _ (run_low (word_of b i) (word_of b (i + 1))) (fields_low b xs)

    node_distinct : (n : SourceNode) → distinct (node_fields n) ≡ true
    unfolding node_fields fields_of
    node_distinct n = go (ltb n.class 2)
      where
        go : (x : Bool) → distinct (cond x (get_or (field_table n.body.tag) n.body.kind []) []) ≡ true
        go true = table_distinct n.body.tag n.body.kind
        go false = refl

    -- The grafted node adds to the layer; in a later state g it shows what it showed in the reading, its words fit, its shape
    -- and its ids are right.
    pub record NodeGood {old : NodeStore} {g : NewLayer} {ls : List Layer} (numbered : Numbered old g ls) (n : SourceNode) (f : NewLayer) : Type 0 where
      pub pools : Pools numbered f → Pools numbered (graft_node_ref (shown_node st n) f).1
      pub shows : shown_node (with_layer old g) (graft_node_ref (shown_node st n) f).0 ≡ shown_node st n
      pub fits : record_fits node_codec n ≡ true → record_fits node_codec (graft_node_ref (shown_node st n) f).0 ≡ true
      pub shape : node_shape n ≡ true → node_shape (graft_node_ref (shown_node st n) f).0 ≡ true
      pub ids : node_ok ls (graft_node_ref (shown_node st n) f).0 ≡ true

    pub record NodeGrafted {old : NodeStore} {g : NewLayer} {ls : List Layer} (numbered : Numbered old g ls) (n : SourceNode) (f : NewLayer) : Type 0 where
      pub made : Made old f (graft_node_ref (shown_node st n) f).1
      pub good : Later (graft_node_ref (shown_node st n) f).1 g → NodeGood numbered n f

    pub node_grafted : {old : NodeStore} {g : NewLayer} {ls : List Layer} (numbered : Numbered old g ls) (n : SourceNode) (f : NewLayer) → Above old f → NodeGrafted numbered n f
    unfolding graft_node_ref shown_node show_node show_with graft_node node_ok node_fields fields_of
    node_grafted numbered n f a =
        let b = n.body in
        let xs = node_fields n in
        let fs = show_fields (λ x. inner 33 st x) st b xs in
        let m = graft_fields_lem numbered fs 33 xs (all_shown 33 b xs (fields_low b xs)) (replicate 6 0) f a refl (node_distinct n) in
        let ws = (graft_fields fs (replicate 6 0) f).0 in
        let new : Body = record { kind = b.kind; tag = b.tag; plain1 = b.plain1; plain2 = b.plain2; words = ws } in
        record {
          made = m.made;
          good = λ lt. let x = m.good lt in record {
            pools = x.pools;
            shows = rw (x.shows new refl);
            fits = λ e. node_fits_lem n ws (six_fit 6 ws m.six (x.words refl)) e;
            shape = λ e. node_shape_lem n ws (unused_kept xs ws m.kept) e;
            ids = x.ids new refl;
          };
        }

    -- ---- the nodes of a reading

    pub record NodesGood {old : NodeStore} {g : NewLayer} {ls : List Layer} (numbered : Numbered old g ls) (ns : List SourceNode) (f : NewLayer) : Type 0 where
      pub pools : Pools numbered f → Pools numbered (graft_node_refs (map (shown_node st) ns) f).1
      pub shows : map (shown_node (with_layer old g)) (graft_node_refs (map (shown_node st) ns) f).0 ≡ map (shown_node st) ns
      pub fits : all (record_fits node_codec) ns ≡ true → all (record_fits node_codec) (graft_node_refs (map (shown_node st) ns) f).0 ≡ true
      pub shape : all node_shape ns ≡ true → all node_shape (graft_node_refs (map (shown_node st) ns) f).0 ≡ true
      pub ids : all (node_ok ls) (graft_node_refs (map (shown_node st) ns) f).0 ≡ true

    pub record NodesGrafted {old : NodeStore} {g : NewLayer} {ls : List Layer} (numbered : Numbered old g ls) (ns : List SourceNode) (f : NewLayer) : Type 0 where
      pub made : Made old f (graft_node_refs (map (shown_node st) ns) f).1
      pub good : Later (graft_node_refs (map (shown_node st) ns) f).1 g → NodesGood numbered ns f

    pub nodes_grafted : {old : NodeStore} {g : NewLayer} {ls : List Layer} (numbered : Numbered old g ls) (ns : List SourceNode) (f : NewLayer) → Above old f → NodesGrafted numbered ns f
    unfolding graft_node_refs
    nodes_grafted numbered [] f a = record {
      made = record { above = a; later = later_refl f };
      good = λ lt. record { pools = λ p. p; shows = refl; fits = λ e. e; shape = λ e. e; ids = refl };
    }
    nodes_grafted {ls = ls} numbered (n ∷ ns) f a =
        let one = node_grafted numbered n f a in
        let r = graft_node_ref (shown_node st n) f in
        let more = nodes_grafted numbered ns r.1 one.made.above in
        let final = graft_node_refs (map (shown_node st) ns) r.1 in
        record {
          made = made_trans one.made more.made;
          good = λ lt.
              let x = one.good (later_trans more.made.later lt) in
              let y = more.good lt in
              record {
                pools = λ p. y.pools (x.pools p);
                shows = ap₂ (λ (m : ShownNode) (ms : List ShownNode). m ∷ ms) x.shows y.shows;
                fits = λ e. let s = both (record_fits node_codec n) (all (record_fits node_codec) ns) e in join (record_fits node_codec r.0) (all (record_fits node_codec) final.0) (x.fits s.0) (y.fits s.1);
                shape = λ e. let s = both (node_shape n) (all node_shape ns) e in join (node_shape r.0) (all node_shape final.0) (x.shape s.0) (y.shape s.1);
                ids = join (node_ok ls r.0) (all (node_ok ls) final.0) x.ids y.ids;
              };
        }
