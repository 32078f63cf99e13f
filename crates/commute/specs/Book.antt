-- A merged book is a book again: its numbers fit their places on a tape, and it passes 1 to 7. Section 4.
use Rattle.std.specs.Prelude.{◌≡◌, ℕ, ◌+◌, ◌≤◌, cond, ◌&&◌, ℤ, pos}
use Rattle.std.proofs.Math.Path.{refl}
use Rattle.std.proofs.Common.{◌∙◌}
use native.Mathlib.Omega.{arith}
use Rattle.std.proofs.Math.Bool.{Bool, true, false, not}
use mathlib.Core.List.{List, [], ◌∷◌, ◌++◌}
use Rattle.std.proofs.Math.ListN.{length}
use Rattle.std.proofs.Math.Dec.{ltb}
use borrow.Author.Tests.{ltb-true, lt-ltb}
use Rattle.model.specs.Lists.{all, is_empty}
use Rattle.model.specs.Limits.{max_text}
use Rattle.model.specs.Utf8.{is_char_boundary}
use Rattle.model.specs.Offset.{Span, shifted}
use Rattle.model.specs.Types.{Layer, SourceNode, PairLink, ContainerPair, Diagnostic, LexOutput, RegionOutput}
use Rattle.model.specs.Refusal.{Checked.accepted}
use Rattle.model.specs.Tape.{body_operands, body_values, node_codec, pair_codec, container_codec, diagnostic_codec, node_fields, node_shape, pair_shape, diagnostic_shape}
use Rattle.model.specs.WellFormed.{texts_are_utf8, node_ok, ids_ok, levels_ok, container_ok, check_book}
use Rattle.model.specs.Graft.{layer_of}
use Rattle.model.specs.Region.{Edit, edited}
use Rattle.model.specs.Merge.{MergeWindow, IncrementalOutput, window_of, moved_offset, cuts_ok, spliced, node_located, shifted_pair, pair_located, container_located, shifted_diagnostic, diagnostic_located, merged_normalized, grafted, merged_layers, merged_book, stored_book, answer}
use Rattle.facts.specs.Truth.{both}
use Rattle.facts.specs.Keep.{all_and}
use Rattle.laws.specs.Checks.{WellFormed, checked_again, utf8_facts, id_facts, merged_of}
use Rattle.laws.specs.Fits.{is_word, operands_fit, record_fits, fits}
use Rattle.laws.specs.WriteRead.{BookFits, book_fits, fits_book, write_read}
use Rattle.laws.specs.Shift.{shift_small, moved_small}
use Rattle.laws.specs.Utf8.{splice_utf8}
use Rattle.laws.specs.Sort.{all_sort_is}
use Rattle.laws.specs.Located.{spliced_all}
use Rattle.laws.specs.Nodes.{container_facts, normal_inside}
use Rattle.commute.specs.Merged.{Fit, new_nodes, region_rises}
use Rattle.commute.specs.Places.{places_ok_lem, sizes_ok}
use Rattle.commute.specs.Grown.{Shapes, shapes_of, shape_is, Grown, grown}
use Rattle.commute.specs.Step.{Step, fit_of, limits}

-- ---- records with other numbers

node_refits : (n : SourceNode) (s : Span) (o : ℕ) → is_word s.start ≡ true → is_word s.end ≡ true → is_word o ≡ true → record_fits node_codec n ≡ true
    → record_fits node_codec (record { class = n.class; inline = n.inline; source_span = s; normalized_offset = o; body = n.body }) ≡ true
unfolding record_fits node_codec operands_fit
node_refits n s o h₁ h₂ h₃ e =
    let a = both (ltb n.class 256) _ e in
    let b = both (ltb n.inline 256) _ a.1 in
    let c = both (is_word n.source_span.start) _ b.1 in
    let d = both (is_word n.source_span.end) _ c.1 in
    let f = both (is_word n.normalized_offset) (operands_fit body_operands (body_values n.body)) d.1 in
    rw (a.0, b.0, h₁, h₂, h₃) f.1

pair_refits : (by : ℤ) (x : PairLink) → record_fits pair_codec x ≡ true → record_fits pair_codec (shifted_pair by x) ≡ true
unfolding record_fits pair_codec operands_fit shifted_pair shifted
pair_refits by x e =
    let a = both (ltb x.kind 256) _ e in
    rw (a.0, shift_small x.opening.start by, shift_small x.opening.end by, shift_small x.closing.start by, shift_small x.closing.end by)

diagnostic_refits : (by : ℤ) (d : Diagnostic) → record_fits diagnostic_codec d ≡ true → record_fits diagnostic_codec (shifted_diagnostic by d) ≡ true
unfolding record_fits diagnostic_codec operands_fit shifted_diagnostic shifted
diagnostic_refits by d e =
    let a = both (ltb d.kind 256) _ e in
    let b = both (is_word d.code_rank) _ a.1 in
    let c = both (is_word d.span.start) _ b.1 in
    let f = both (is_word d.span.end) _ c.1 in
    rw (a.0, b.0, shift_small d.span.start by, shift_small d.span.end by) f.1

container_refits : (c : ContainerPair) (o o' : ℕ) → is_word o ≡ true → is_word o' ≡ true → record_fits container_codec c ≡ true → record_fits container_codec (record { plain = c.plain; opening = o; closing = o' }) ≡ true
unfolding record_fits container_codec operands_fit
container_refits c o o' h k e = rw ((both (is_word c.plain) _ e).0, h, k)

-- ---- the merged book

module _ {old : LexOutput} {e : Edit} {r : Span} {reading : RegionOutput} {m : IncrementalOutput} (s : Step old e r reading m) where
  abbrev new : LexOutput
  new = merged_of old e reading r

  abbrev win : MergeWindow
  win = window_of old e reading r

  fo : BookFits old
  fo = book_fits old s.old_fits

  fr : BookFits reading
  fr = book_fits reading s.reading_fits

  f : Fit old e reading r
  f = fit_of s

  g : Grown old.layers reading new.layers (grafted old reading).0
  g = grown old reading s.old_fits s.reading_fits s.old_formed s.reading_formed e r (limits s)

  start_small : win.normalized.start ≤ max_text
  unfolding window_of
  start_small =
      let x = region_rises f in
      let i = f.inside in
      let n = normal_inside f.old_sound f.start_safe (omega arith) in
      let k = f.old_sound.normalized in
      omega arith

  -- ---- the layout

  nodes_fit : all (record_fits node_codec) new.source_nodes ≡ true
  unfolding merged_book node_located shifted
  nodes_fit =
      let small : SourceNode → Bool = λ n. ltb n.normalized_offset (length reading.normalized) in
      spliced_all node_located win (record_fits node_codec) (λ n. record_fits node_codec n && small n) (record_fits node_codec) (λ n o h. o)
      (λ n o. let u = both (record_fits node_codec n) (small n) o in let x = ltb-true n.normalized_offset (length reading.normalized) u.1 in
      node_refits n (shifted n.source_span (pos win.source.start)) (n.normalized_offset + win.normalized.start) (shift_small n.source_span.start (pos win.source.start))
      (shift_small n.source_span.end (pos win.source.start))
      (lt-ltb (n.normalized_offset + win.normalized.start) 4294967296 (omega (arith, start_small, f.reading_sound.normalized))) u.0)
      (λ n o h. node_refits n (shifted n.source_span win.source_delta) (moved_offset n.normalized_offset win.normalized_delta) (shift_small n.source_span.start win.source_delta)
      (shift_small n.source_span.end win.source_delta) (moved_small n.normalized_offset win.normalized_delta) o)
      old.source_nodes (grafted old reading).0 fo.source_nodes (all_and (record_fits node_codec) small (grafted old reading).0 g.node_fits (new_nodes f).small)

  pairs_fit : all (record_fits pair_codec) new.pairs ≡ true
  unfolding merged_book pair_located
  pairs_fit =
      spliced_all pair_located win (record_fits pair_codec) (record_fits pair_codec) (record_fits pair_codec) (λ x o h. o) (pair_refits (pos win.source.start))
      (λ x o h. pair_refits win.source_delta x o) old.pairs reading.pairs fo.pairs fr.pairs

  diagnostics_fit : all (record_fits diagnostic_codec) new.diagnostics ≡ true
  unfolding merged_book diagnostic_located
  diagnostics_fit =
      all_sort_is (record_fits diagnostic_codec) (spliced diagnostic_located win old.diagnostics reading.diagnostics)
      ∙ (spliced_all diagnostic_located win (record_fits diagnostic_codec) (record_fits diagnostic_codec) (record_fits diagnostic_codec) (λ x o h. o) (diagnostic_refits (pos win.source.start))
      (λ x o h. diagnostic_refits win.source_delta x o) old.diagnostics reading.diagnostics fo.diagnostics fr.diagnostics)

  containers_fit : all (record_fits container_codec) new.container_pairs ≡ true
  unfolding merged_book container_located
  containers_fit =
      let R = length reading.normalized in
      spliced_all container_located win (record_fits container_codec) (λ c. record_fits container_codec c && container_ok R c) (record_fits container_codec) (λ c o h. o)
      (λ c o. let u = both (record_fits container_codec c) (container_ok R c) o in let x = container_facts R c u.1 in
      container_refits c (c.opening + win.normalized.start) (c.closing + win.normalized.start) (lt-ltb (c.opening + win.normalized.start) 4294967296 (omega (arith, start_small, f.reading_sound.normalized)))
      (lt-ltb (c.closing + win.normalized.start) 4294967296 (omega (arith, start_small, f.reading_sound.normalized))) u.0)
      (λ c o h. container_refits c (moved_offset c.opening win.normalized_delta) (moved_offset c.closing win.normalized_delta) (moved_small c.opening win.normalized_delta) (moved_small c.closing win.normalized_delta) o)
      old.container_pairs reading.container_pairs fo.container_pairs (all_and (record_fits container_codec) (container_ok R) reading.container_pairs fr.container_pairs f.reading_sound.places.container_pairs)

  shapes : Shapes new
  unfolding merged_book node_located pair_located diagnostic_located shifted_pair shifted_diagnostic node_shape node_fields pair_shape diagnostic_shape
  shapes =
      let so = shapes_of old fo.shape in
      let sr = shapes_of reading fr.shape in
      record {
        layers = g.layers.shape;
        nodes = spliced_all node_located win node_shape node_shape node_shape (λ n o h. o) (λ n o. o) (λ n o h. o) old.source_nodes (grafted old reading).0 so.nodes g.node_shapes;
        pairs = spliced_all pair_located win pair_shape pair_shape pair_shape (λ n o h. o) (λ n o. o) (λ n o h. o) old.pairs reading.pairs so.pairs sr.pairs;
        diagnostics =
            all_sort_is diagnostic_shape (spliced diagnostic_located win old.diagnostics reading.diagnostics)
            ∙ (spliced_all diagnostic_located win diagnostic_shape diagnostic_shape diagnostic_shape (λ n o h. o) (λ n o. o) (λ n o h. o) old.diagnostics reading.diagnostics so.diagnostics sr.diagnostics);
      }

  some_layers : not (is_empty new.layers) ≡ true
  unfolding merged_book merged_layers
  some_layers = go (is_empty reading.source_nodes) old.layers fo.layered
    where
      go : (t : Bool) (ls : List Layer) → not (is_empty ls) ≡ true → not (is_empty (cond t ls (ls ++ (layer_of (grafted old reading).1 ∷ [])))) ≡ true
      go true ls q = q
      go false [] q = refl
      go false (l ∷ ls) q = refl

  merged_fits : fits new ≡ true
  merged_fits =
      let l = limits s in
      fits_book new (record {
        sanitized = lt-ltb (length new.sanitized) 4294967296 (omega (arith, l.sanitized));
        normalized = lt-ltb (length new.normalized) 4294967296 (omega (arith, l.normalized));
        layered = some_layers;
        layers = g.layers.fits;
        source_nodes = nodes_fit;
        pairs = pairs_fit;
        container_pairs = containers_fit;
        diagnostics = diagnostics_fit;
        shape = shape_is new shapes;
      })

  -- ---- 2, 4 and 5

  texts_ok : texts_are_utf8 new ≡ true
  unfolding texts_are_utf8 merged_book edited merged_normalized cuts_ok
  texts_ok =
      let u = utf8_facts old s.old_formed.utf8 in
      let c = both (is_char_boundary old.normalized win.normalized.start) (is_char_boundary old.normalized win.normalized.end) s.facts.cuts in
      rw (
        splice_utf8 e.start e.end e.replacement old.sanitized u.sanitized s.chosen.replacement s.chosen.start_boundary s.chosen.end_boundary,
        splice_utf8 win.normalized.start win.normalized.end reading.normalized old.normalized u.normalized (utf8_facts reading s.reading_formed.utf8).normalized c.0 c.1,
      ) g.layers.strings

  nodes_ok : all (node_ok new.layers) new.source_nodes ≡ true
  unfolding merged_book node_located node_ok node_fields
  nodes_ok =
      spliced_all node_located win (node_ok old.layers) (node_ok new.layers) (node_ok new.layers) (λ n o h. g.kept_ids n o) (λ n o. o) (λ n o h. g.kept_ids n o)
      old.source_nodes (grafted old reading).0 (id_facts old s.old_formed.ids).source_nodes g.node_ids

  ids_ok_lem : ids_ok new ≡ true
  unfolding ids_ok
  ids_ok_lem = rw g.layers.ids nodes_ok

  levels_ok_lem : levels_ok new ≡ true
  unfolding levels_ok
  levels_ok_lem = g.layers.levels

  -- The result of an accepted merge fits the layout and passes 2 to 7 again.
  pub merged_book_lem : (fits new ≡ true) × WellFormed new
  merged_book_lem = (
    merged_fits,
    record { utf8 = texts_ok; limits = s.facts.limits; ids = ids_ok_lem; levels = levels_ok_lem; places = places_ok_lem f; sizes = sizes_ok f },
  )

  -- so its tape is accepted again, as that book
  pub output_again : check_book m.output.tape m.output.bytes ≡ accepted new
  unfolding answer stored_book
  output_again = rw s.facts.result (checked_again (stored_book new).tape (stored_book new).bytes new (write_read new merged_book_lem.0) merged_book_lem.1)
