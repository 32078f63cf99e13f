-- Nodes grafted into a new layer above others: layers and nodes pass 1, 2, 4 and 5, and show what they showed. Sections 4 and 5; of a merged
-- book's layers, and of a flat book's (wish 6), which stands on none.
use Rattle.std.specs.Prelude.{◌≡◌, ℕ, Bool, true, false, cond, ◌&&◌, length}
use Rattle.std.proofs.Math.Path.{refl, sym, ap}
use Rattle.std.proofs.Common.{◌∙◌, subst, arith}
use Rattle.std.proofs.lemmas.Bool.{false≢true}
use mathlib.Core.List.{List, [], ◌∷◌, ◌++◌, map, flatten}
use Rattle.model.specs.Lists.{all, is_empty}
use Rattle.model.specs.Utf8.{utf8}
use Rattle.model.specs.Offset.{Span}
use Rattle.model.specs.Types.{Content, Segment, Layer, SourceNode, LexOutput}
use Rattle.model.specs.Tape.{content_codec, segment_codec, node_codec, content_shape, segment_shape, node_shape, pair_shape, diagnostic_shape, layer_shape, book_shape, fields_of}
use Rattle.model.specs.Store.{NodeStore, store_of}
use Rattle.model.specs.WellFormed.{content_ok, segment_ok, node_ok, level_ok, levels_ok}
use Rattle.model.specs.Tree.{show_with, shown_node, shown_nodes}
use Rattle.model.specs.Graft.{NewLayer, layered, layer_of, With, graft_node_refs}
use Rattle.model.specs.Region.{Edit}
use Rattle.model.specs.Merge.{grafted, merged_layers, merged_book}
use Rattle.facts.specs.Truth.{both, join}
use Rattle.facts.specs.Keep.{all_append, all_and, all_map}
use Rattle.laws.specs.Checks.{WellFormed, utf8_facts, LimitFacts, id_facts, merged_of}
use Rattle.laws.specs.Fits.{is_word, record_fits, layer_fits, fits}
use Rattle.laws.specs.WriteRead.{layer_fits_lem, book_fits}
use Rattle.laws.specs.Graft.{good_string, inner, show_body_lem, level_from, level_shown, with_layer, later_refl, Numbered, Pools, good_content, content_facts, good_segment, segment_facts}
use Rattle.laws.specs.Levels.{good, nodes_grafted}
use Rattle.laws.specs.Layers.{pool_all, More, more_layers, show_same, show_node_same, pool_ids, content_more, segment_more, node_more, fresh_above, store_with, numbered_with}

-- ---- shapes

pub record Shapes (b : LexOutput) : Type 0 where
  pub layers : all layer_shape b.layers ≡ true
  pub nodes : all node_shape b.source_nodes ≡ true
  pub pairs : all pair_shape b.pairs ≡ true
  pub diagnostics : all diagnostic_shape b.diagnostics ≡ true

pub shapes_of : (b : LexOutput) → book_shape b ≡ true → Shapes b
unfolding book_shape
shapes_of b e =
    let u₄ = both _ (all diagnostic_shape b.diagnostics) e in
    let u₃ = both _ (all pair_shape b.pairs) u₄.0 in
    let u₂ = both (all layer_shape b.layers) (all node_shape b.source_nodes) u₃.0 in
    record { layers = u₂.0; nodes = u₂.1; pairs = u₃.1; diagnostics = u₄.1 }

pub shape_is : (b : LexOutput) → Shapes b → book_shape b ≡ true
unfolding book_shape
shape_is b s = rw (s.layers, s.nodes, s.pairs, s.diagnostics)

-- ---- the pools of layers

abbrev pub layer_utf8 : Layer → Bool
layer_utf8 l = all utf8 l.strings

pool_strings : (ls : List Layer) → all layer_fits ls ≡ true → all layer_utf8 ls ≡ true → all good_string (store_of ls).strings ≡ true
unfolding store_of
pool_strings ls f u =
    pool_all (λ (l : Layer). l.strings) good_string ls
    ∙ all_map (λ l. layer_fits l && layer_utf8 l) (λ (l : Layer). all good_string l.strings)
    (λ l e. let s = both (layer_fits l) (layer_utf8 l) e in all_and (λ (x : List ℕ). is_word (length x)) utf8 l.strings (layer_fits_lem l s.0).strings s.1) ls (all_and layer_fits layer_utf8 ls f u)

pool_segments : (b : LexOutput) → all layer_fits b.layers ≡ true → all layer_shape b.layers ≡ true → levels_ok b ≡ true → all (good (store_of b.layers)) (store_of b.layers).segments ≡ true
unfolding levels_ok store_of layer_shape
pool_segments b f s v =
    let ls = b.layers in
    let st = store_of ls in
    all_and (record_fits segment_codec) (λ x. segment_shape x && level_ok st x) st.segments
    (pool_all (λ (l : Layer). l.segments) (record_fits segment_codec) ls ∙ all_map layer_fits (λ (l : Layer). all (record_fits segment_codec) l.segments) (λ l e. (layer_fits_lem l e).segments) ls f)
    (all_and segment_shape (level_ok st) st.segments
    (pool_all (λ (l : Layer). l.segments) segment_shape ls ∙ all_map layer_shape (λ (l : Layer). all segment_shape l.segments) (λ l e. (both (all content_shape l.contents) (all segment_shape l.segments) e).1) ls s) v)

-- ---- what 1, 2, 4 and 5 ask of layers

abbrev pub layer_ids : List Layer → Layer → Bool
layer_ids ls l = all (content_ok ls) l.contents && all (segment_ok ls) l.segments

pub record GoodLayers (ls : List Layer) : Type 0 where
  pub fits : all layer_fits ls ≡ true
  pub shape : all layer_shape ls ≡ true
  pub strings : all layer_utf8 ls ≡ true
  pub ids : all (layer_ids ls) ls ≡ true
  pub levels : all (level_ok (store_of ls)) (store_of ls).segments ≡ true

pub no_layers : GoodLayers []
unfolding store_of flatten
no_layers = record { fits = refl; shape = refl; strings = refl; ids = refl; levels = refl }

book_layers : (b : LexOutput) → fits b ≡ true → WellFormed b → GoodLayers b.layers
unfolding levels_ok
book_layers b f w =
    let k = book_fits b f in
    record { fits = k.layers; shape = (shapes_of b k.shape).layers; strings = (utf8_facts b w.utf8).strings; ids = (id_facts b w.ids).pools; levels = w.levels }

-- ---- a new layer g above

module _ {old : List Layer} (o : GoodLayers old) (g : NewLayer) (numbered : Numbered (store_of old) g (old ++ (layer_of g ∷ []))) (pools : Pools numbered g) where
  abbrev new : List Layer
  new = old ++ (layer_of g ∷ [])

  abbrev st : NodeStore
  st = with_layer (store_of old) g

  abbrev gc : Content → Bool
  gc = good_content numbered

  abbrev gs : Segment → Bool
  gs = good_segment numbered

  more : More (store_of old) st
  more = subst (More (store_of old)) (store_with old g) (more_layers old (layer_of g ∷ []))

  -- a segment of the old layers has its level in the new store
  old_level : (s : Segment) → segment_ok old s && level_ok (store_of old) s ≡ true → level_ok st s ≡ true
  unfolding segment_ok
  old_level s e =
      let h = both (segment_ok old s) (level_ok (store_of old) s) e in
      let i = pool_ids old o.ids in
      let r = store_of old in
      let b = s.body in
      let shown : show_with (λ x. inner 0 st x) st (fields_of b) b ≡ show_with (λ x. inner 0 r x) r (fields_of b) b = sym (show_body_lem 0 st b) ∙ show_same old st more i.0 i.1 0 b h.0 ∙ show_body_lem 0 r b in
      level_shown (λ x. inner 0 st x) st s ∙ ap (level_from s.tag s.level) shown ∙ sym (level_shown (λ x. inner 0 r x) r s) ∙ h.1

  snoc : (t : Layer → Bool) → all t old ≡ true → t (layer_of g) ≡ true → all t new ≡ true
  snoc t a h = all_append t old (layer_of g ∷ []) a (join (t (layer_of g)) true h refl)

  new_fits : layer_fits (layer_of g) ≡ true
  unfolding layer_fits layer_of
  new_fits =
      rw (
        all_map good_string (λ (s : List ℕ). is_word (length s)) (λ s e. (both (is_word (length s)) (utf8 s) e).0) g.interner.strings pools.strings,
        all_map gc (record_fits content_codec) (λ c e. (content_facts numbered c e).fits) g.contents pools.contents,
        all_map gs (record_fits segment_codec) (λ s e. (segment_facts numbered s e).fits) g.segments pools.segments,
      )

  new_shape : layer_shape (layer_of g) ≡ true
  unfolding layer_shape layer_of
  new_shape =
      rw (
        all_map gc content_shape (λ c e. (content_facts numbered c e).shape) g.contents pools.contents,
        all_map gs segment_shape (λ s e. (segment_facts numbered s e).shape) g.segments pools.segments,
      )

  new_utf8 : layer_utf8 (layer_of g) ≡ true
  unfolding layer_of
  new_utf8 = all_map good_string utf8 (λ s e. (both (is_word (length s)) (utf8 s) e).1) g.interner.strings pools.strings

  new_ids : layer_ids new (layer_of g) ≡ true
  unfolding layer_of
  new_ids =
      rw (
        all_map gc (content_ok new) (λ c e. (content_facts numbered c e).ids) g.contents pools.contents,
        all_map gs (segment_ok new) (λ s e. (segment_facts numbered s e).ids) g.segments pools.segments,
      )

  old_ids : all (layer_ids new) old ≡ true
  old_ids =
      all_map (layer_ids old) (layer_ids new)
      (λ l e. let u = both (all (content_ok old) l.contents) (all (segment_ok old) l.segments) e in
      join (all (content_ok new) l.contents) (all (segment_ok new) l.segments)
      (all_map (content_ok old) (content_ok new) (content_more old (layer_of g ∷ [])) l.contents u.0)
      (all_map (segment_ok old) (segment_ok new) (segment_more old (layer_of g ∷ [])) l.segments u.1))
      old o.ids

  all_levels : all (level_ok st) st.segments ≡ true
  all_levels =
      let r = store_of old in
      all_append (level_ok st) r.segments g.segments
      (all_map (λ s. segment_ok old s && level_ok r s) (level_ok st) old_level r.segments (all_and (segment_ok old) (level_ok r) r.segments (pool_ids old o.ids).1 o.levels))
      (all_map gs (level_ok st) (λ s e. (segment_facts numbered s e).level) g.segments pools.segments)

  layer_above : GoodLayers new
  layer_above = record {
    fits = snoc layer_fits o.fits new_fits;
    shape = snoc layer_shape o.shape new_shape;
    strings = snoc layer_utf8 o.strings new_utf8;
    ids = snoc (layer_ids new) old_ids new_ids;
    levels = ap (λ (x : NodeStore). all (level_ok x) x.segments) (store_with old g) ∙ all_levels;
  }

-- ---- layers, and nodes that show what a reading's showed

pub record Grown (old : List Layer) (reading : LexOutput) (ls : List Layer) (ns : List SourceNode) : Type 0 where
  pub layers : GoodLayers ls
  pub node_fits : all (record_fits node_codec) ns ≡ true
  pub node_shapes : all node_shape ns ≡ true
  pub node_ids : all (node_ok ls) ns ≡ true
  pub node_shows : map (shown_node (store_of ls)) ns ≡ shown_nodes reading
  -- nodes over the old layers
  pub kept_ids : (n : SourceNode) → node_ok old n ≡ true → node_ok ls n ≡ true
  pub kept_shows : (n : SourceNode) → node_ok old n ≡ true → shown_node (store_of ls) n ≡ shown_node (store_of old) n

module _ {old : List Layer} (o : GoodLayers old) (reading : LexOutput) where
  abbrev rs : NodeStore
  rs = store_of reading.layers

  -- a reading without nodes, which adds no layer
  nothing_new : reading.source_nodes ≡ [] → Grown old reading old []
  unfolding shown_nodes
  nothing_new q = record {
    layers = o;
    node_fits = refl;
    node_shapes = refl;
    node_ids = refl;
    node_shows = ap (map (shown_node rs)) (sym q);
    kept_ids = λ n h. h;
    kept_shows = λ n h. refl;
  }

  -- the reading's nodes, grafted above
  abbrev above : With (List SourceNode)
  above = graft_node_refs (map (shown_node rs) reading.source_nodes) (layered old)

  no_pools : (g : NewLayer) (numbered : Numbered (store_of old) g (old ++ (layer_of g ∷ []))) → Pools numbered (layered old)
  unfolding layered
  no_pools g numbered = record { strings = refl; contents = refl; segments = refl }

  pub something_new : fits reading ≡ true → WellFormed reading → Numbered (store_of old) above.1 (old ++ (layer_of above.1 ∷ [])) → Grown old reading (old ++ (layer_of above.1 ∷ [])) above.0
  unfolding shown_node shown_nodes
  something_new fr wr numbered =
      let k = book_fits reading fr in
      let shapes = shapes_of reading k.shape in
      let g = above.1 in
      let new = old ++ (layer_of g ∷ []) in
      let n = (nodes_grafted rs (pool_strings reading.layers k.layers (utf8_facts reading wr.utf8).strings) (pool_segments reading k.layers shapes.layers wr.levels) numbered reading.source_nodes (layered old) (fresh_above old)).good (later_refl g) in
      let p = pool_ids old o.ids in
      record {
        layers = layer_above o g numbered (n.pools (no_pools g numbered));
        node_fits = n.fits k.source_nodes;
        node_shapes = n.shape shapes.nodes;
        node_ids = n.ids;
        node_shows = ap (λ (x : NodeStore). map (shown_node x) above.0) (store_with old g) ∙ n.shows;
        kept_ids = node_more old (layer_of g ∷ []);
        kept_shows = λ n k. rw (show_node_same old (store_of new) (more_layers old (layer_of g ∷ [])) p.0 p.1 n k);
      }

-- ---- the merge's

module _ (old reading : LexOutput) (fo : fits old ≡ true) (fr : fits reading ≡ true) (wo : WellFormed old) (wr : WellFormed reading) (e : Edit) (r : Span) (limits : LimitFacts (merged_of old e reading r)) where
  nothing_grafted : (ns : List SourceNode) → is_empty ns ≡ true → (graft_node_refs (map (shown_node (store_of reading.layers)) ns) (layered old.layers)).0 ≡ []
  unfolding graft_node_refs
  nothing_grafted [] q = refl
  nothing_grafted (n ∷ ns) q = absurd (false≢true q)

  empty_list : (ns : List SourceNode) → is_empty ns ≡ true → ns ≡ []
  empty_list [] q = refl
  empty_list (n ∷ ns) q = absurd (false≢true q)

  pub grown : Grown old.layers reading (merged_of old e reading r).layers (grafted old reading).0
  unfolding merged_book merged_layers grafted shown_nodes
  grown = go (is_empty reading.source_nodes) refl limits
    where
      o : GoodLayers old.layers
      o = book_layers old fo wo

      g : With (List SourceNode)
      g = graft_node_refs (map (shown_node (store_of reading.layers)) reading.source_nodes) (layered old.layers)

      go : (t : Bool) → is_empty reading.source_nodes ≡ t → LimitFacts (merged_of old e reading r) → Grown old.layers reading (cond t old.layers (old.layers ++ (layer_of g.1 ∷ []))) g.0
      go true q l = rw (nothing_grafted reading.source_nodes q) (nothing_new o reading (empty_list reading.source_nodes q))
      go false q l = something_new o reading fr wr (numbered_with old.layers g.1 (omega (arith, rw q at l.strings)) (omega (arith, rw q at l.contents)) (omega (arith, rw q at l.segments)))
