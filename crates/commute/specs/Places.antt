-- A merged book passes 6 and 7: its spans, its order, its nodes' offsets and its normalized length. And where its cuts lie in
-- its normalized text.
use Rattle.std.specs.Prelude.{◌≡◌, ℕ, ◌+◌, ◌≤◌, false, ◌&&◌, List, ◌++◌, map, leb, ltb}
use Rattle.std.proofs.Math.Path.{refl, ap, ap₂}
use Rattle.std.proofs.Common.{◌∙◌}
use native.Mathlib.Omega.{arith}
use Rattle.std.proofs.Math.Bool.{Bool, true}
use Rattle.std.proofs.Math.Option.{Option, none, some}
use Rattle.std.proofs.Math.ListN.{length}
use borrow.Author.Tests.{leb-true, ltb-true, le-leb, lt-leb, eq-eqb}
use Rattle.model.specs.Lists.{all, keep}
use Rattle.model.specs.Offset.{Span, shifted, shift_u32}
use Rattle.model.specs.Types.{SourceNode, PairLink, ContainerPair, LexOutput, RegionOutput}
use Rattle.model.specs.WellFormed.{ordered, offsets_ok, standalone_padding, image_length, pair_ok, container_ok, diagnostic_ok, places_ok, images, spans, normalized_length_ok}
use Rattle.model.specs.Region.{Edit}
use Rattle.model.specs.Merge.{MergeWindow, window_of, normalized_offset, kept_before, kept_behind, spliced, node_located, shifted_pair, pair_located, container_located, diagnostic_located, merged_normalized, grafted, merged_book}
use Rattle.facts.specs.Truth.{both, join, same_le}
use Rattle.facts.specs.Keep.{all_and, all_keep, all_map, all_keep_self, all_map_is, all_true}
use Rattle.laws.specs.Checks.{merged_of}
use Rattle.laws.specs.Splice.{splice_length}
use Rattle.laws.specs.Sort.{all_sort_is}
use Rattle.laws.specs.Located.{spliced_all, keep_front, keep_rest}
use Rattle.laws.specs.Nodes.{Sound, span_facts, span_ok_lem, pair_facts, pair_ok_lem, container_facts, container_ok_lem, diagnostic_facts, diagnostic_ok_lem, ends_by, starts_at, node_in, images_append, spans_append, ordered_keep, ordered_join, normal_sum, offsets_append, split, behind_ordered, offsets_split, normal_at, normal_behind, normal_inside, offsets_behind, offsets_small, NodeShift, shift_spans, shift_images, shift_ordered, shift_offsets}
use Rattle.commute.specs.Merged.{Fit, new_nodes, p, q, start_n, end_n, moved_sum, placed_number, length_sum, normal_region_rises, offset_sum, offset_answers, nodes_wide, diagnostics_carried, containers_wide}

abbrev is_some : Option ℕ → Bool
is_some none = false
is_some (some n) = true

module _ {old : LexOutput} {e : Edit} {reading : RegionOutput} {r : Span} (f : Fit old e reading r) where
  abbrev new : LexOutput
  new = merged_of old e reading r

  abbrev win : MergeWindow
  win = window_of old e reading r

  abbrev s₀ : ℕ
  s₀ = start_n f

  abbrev s₁ : ℕ
  s₁ = end_n f

  abbrev pw : ℕ
  pw = p f

  abbrev qw : ℕ
  qw = q f

  -- ---- the three parts of the nodes

  abbrev front : List SourceNode
  front = keep (ends_by r.start) old.source_nodes

  abbrev until : List SourceNode
  until = keep (ends_by r.end) old.source_nodes

  abbrev behind : List SourceNode
  behind = keep (starts_at r.end) old.source_nodes

  abbrev in_old : SourceNode → Bool
  in_old = node_in (length old.sanitized)

  abbrev in_read : SourceNode → Bool
  in_read = node_in (length reading.sanitized)

  abbrev placed : List SourceNode
  placed = map (node_located.placed win) (grafted old reading).0

  placed_shift : (n : SourceNode) → in_read n ≡ true → NodeShift (node_located.placed win) 0 r.start 0 s₀ n
  unfolding node_located window_of image_length standalone_padding
  placed_shift n o =
      let c = (nodes_wide f).carried in
      record { start = omega (arith, c.placed_start n o); end = omega (arith, c.placed_end n o); offset = omega arith; image = refl }

  -- a node behind the region, with its offset
  abbrev movable : SourceNode → Bool
  movable n = in_old n && starts_at r.end n && (leb s₁ n.normalized_offset && ltb n.normalized_offset (length old.normalized))

  all_movable : all movable behind ≡ true
  all_movable =
      let s = f.old_sound in
      all_and (λ n. in_old n && starts_at r.end n) (λ n. leb s₁ n.normalized_offset && ltb n.normalized_offset (length old.normalized)) behind
      (all_and in_old (starts_at r.end) behind (all_keep in_old (starts_at r.end) old.source_nodes s.places.source_spans) (all_keep_self (starts_at r.end) old.source_nodes))
      (all_and (λ n. leb s₁ n.normalized_offset) (λ n. ltb n.normalized_offset (length old.normalized)) behind (offsets_behind s f.end_safe)
      (all_keep (λ n. ltb n.normalized_offset (length old.normalized)) (starts_at r.end) old.source_nodes (offsets_small s)))

  moved_shift : (n : SourceNode) → movable n ≡ true → NodeShift (node_located.moved win) qw pw s₁ (length reading.normalized + s₀) n
  unfolding node_located window_of image_length standalone_padding
  moved_shift n o =
      let c = (nodes_wide f).carried in
      let u = both (in_old n && starts_at r.end n) _ o in
      let v = both (in_old n) (starts_at r.end n) u.0 in
      let z = both (leb s₁ n.normalized_offset) (ltb n.normalized_offset (length old.normalized)) u.1 in
      let h = leb-true r.end n.source_span.start v.1 in
      let small = ltb-true n.normalized_offset (length old.normalized) z.1 in
      record {
        start = c.moved_start n v.0 h;
        end = c.moved_end n v.0 h;
        offset = offset_sum f n.normalized_offset (leb-true s₁ n.normalized_offset z.0) (omega (arith, small, f.old_sound.normalized));
        image = refl;
      }

  -- ---- `shift_u32` has an answer wherever the merge asks: for every node and every container behind the region

  pub nodes_answered : all (λ (n : SourceNode). is_some (shift_u32 n.normalized_offset win.normalized_delta)) behind ≡ true
  nodes_answered = all_map movable (λ n. is_some (shift_u32 n.normalized_offset win.normalized_delta)) one behind all_movable
    where
      one : (n : SourceNode) → movable n ≡ true → is_some (shift_u32 n.normalized_offset win.normalized_delta) ≡ true
      one n o =
          let z = both (leb s₁ n.normalized_offset) (ltb n.normalized_offset (length old.normalized)) (both (in_old n && starts_at r.end n) _ o).1 in
          let small = ltb-true n.normalized_offset (length old.normalized) z.1 in
          ap is_some (offset_answers f n.normalized_offset (leb-true s₁ n.normalized_offset z.0) (omega (arith, small, f.old_sound.normalized)))

  pub containers_answered : all (λ (c : ContainerPair). is_some (shift_u32 c.opening win.normalized_delta) && is_some (shift_u32 c.closing win.normalized_delta)) (keep (λ (c : ContainerPair). leb s₁ c.opening) old.container_pairs) ≡ true
  containers_answered =
      let ok = container_ok (length old.normalized) in
      let opens : ContainerPair → Bool = λ c. leb s₁ c.opening in
      all_map (λ c. ok c && opens c) (λ c. is_some (shift_u32 c.opening win.normalized_delta) && is_some (shift_u32 c.closing win.normalized_delta)) one (keep opens old.container_pairs)
      (all_and ok opens (keep opens old.container_pairs) (all_keep ok opens old.container_pairs f.old_sound.places.container_pairs) (all_keep_self opens old.container_pairs))
    where
      one : (c : ContainerPair) → container_ok (length old.normalized) c && leb s₁ c.opening ≡ true
          → is_some (shift_u32 c.opening win.normalized_delta) && is_some (shift_u32 c.closing win.normalized_delta) ≡ true
      one c o =
          let u = both (container_ok (length old.normalized) c) (leb s₁ c.opening) o in
          let g = container_facts (length old.normalized) c u.0 in
          let h = leb-true s₁ c.opening u.1 in
          join (is_some (shift_u32 c.opening win.normalized_delta)) _
          (ap is_some (offset_answers f c.opening h (omega (arith, g.0, g.1, f.old_sound.normalized))))
          (ap is_some (offset_answers f c.closing (omega (arith, g.0, h)) (omega (arith, g.1, f.old_sound.normalized))))

  -- ---- where a cut lies in the normalized text

  -- at or before the region
  pub normal_before : (c : ℕ) → c ≤ r.start → normalized_offset new.source_nodes c ≡ normalized_offset old.source_nodes c
  unfolding normalized_offset merged_book node_located window_of
  normal_before c h =
      rw (keep_front (nodes_wide f) old.source_nodes (grafted old reading).0 f.old_sound.places.source_spans (new_nodes f).inside
      (ends_by c) (λ n. true) (λ n k g. lt-leb n.source_span.end c (omega arith)) (λ n k t. let x = leb-true n.source_span.end c t in omega arith) (all_true old.source_nodes))

  -- behind it
  taken : (c c' : ℕ) → r.end ≤ c → c' + qw ≡ c + pw → keep (ends_by c') new.source_nodes ≡ front ++ (placed ++ map (node_located.moved win) (keep (ends_by c) behind))
  unfolding merged_book node_located window_of kept_before kept_behind
  taken c c' h g =
      keep_rest (nodes_wide f) old.source_nodes (grafted old reading).0 f.old_sound.places.source_spans (new_nodes f).inside
      (ends_by c) (ends_by c') (λ n k l. let z = f.size in le-leb n.source_span.end c' (omega arith))
      (λ n o k. let z = (nodes_wide f).carried.moved_end n o k in same_le (node_located.moved win n).source_span.end c' n.source_span.end c (omega arith) (omega arith))

  pub normal_moves : Sound new → (c c' : ℕ) → r.end ≤ c → c' + qw ≡ c + pw → normalized_offset new.source_nodes c' + s₁ ≡ normalized_offset old.source_nodes c + (length reading.normalized + s₀)
  normal_moves sound c c' h g =
      let m = keep (ends_by c) behind in
      let M = map (node_located.moved win) m in
      let okM = all_keep movable (ends_by c) behind all_movable in
      let x : normalized_offset new.source_nodes c' + spans (front ++ (placed ++ M)) ≡ c' + images (front ++ (placed ++ M)) =
      rw (taken c c' h g) at (normal_sum (length new.sanitized) new.source_nodes sound.places.order sound.places.source_spans c') in
      let a₁ = spans_append front (placed ++ M) in
      let a₂ = spans_append placed M in
      let a₃ = shift_spans placed_shift (grafted old reading).0 (new_nodes f).inside in
      let a₄ = shift_spans moved_shift m okM in
      let b₁ = images_append front (placed ++ M) in
      let b₂ = images_append placed M in
      let b₃ = shift_images placed_shift (grafted old reading).0 (new_nodes f).inside in
      let b₄ = shift_images moved_shift m okM in
      let y₁ = normal_at f.old_sound f.start_safe in
      let y₂ = normal_behind f.old_sound f.end_safe c h in
      let g₁ = (new_nodes f).spans in
      let g₂ = (new_nodes f).images in
      omega arith

  -- ---- the nodes

  abbrev moved : List SourceNode
  moved = map (node_located.moved win) behind

  parts : new.source_nodes ≡ front ++ (placed ++ moved)
  unfolding merged_book spliced node_located window_of kept_before kept_behind
  parts = refl

  abbrev new_end : ℕ
  new_end = r.start + length reading.sanitized

  grown : new_end ≤ length new.sanitized
  grown =
      let a = length_sum f in
      omega arith

  nodes_in : all (node_in (length new.sanitized)) new.source_nodes ≡ true
  unfolding merged_book node_located window_of
  nodes_in =
      let c = (nodes_wide f).carried in
      let wide = (nodes_wide f).wide in
      let wide_read = (nodes_wide f).wide_read in
      let size = length new.sanitized in
      spliced_all node_located win in_old in_read (node_in size)
      (λ n o h. span_ok_lem size n.source_span (wide n o) (omega (arith, grown)))
      (λ n o. span_ok_lem size (node_located.placed win n).source_span (omega (arith, wide_read n o, c.placed_start n o, c.placed_end n o)) (omega (arith, grown, c.inside n o, c.placed_end n o)))
      (λ n o h. span_ok_lem size (node_located.moved win n).source_span (omega (arith, wide n o, c.moved_start n o h, c.moved_end n o h))
      (omega (arith, length_sum f, c.moved_end n o h, (span_facts (length old.sanitized) n.source_span o).1)))
      old.source_nodes (grafted old reading).0 f.old_sound.places.source_spans (new_nodes f).inside

  placed_ends : all (ends_by new_end) placed ≡ true
  unfolding node_located window_of
  placed_ends =
      let c = (nodes_wide f).carried in
      all_map_is (ends_by new_end) (node_located.placed win) (grafted old reading).0
      ∙ all_map in_read (λ n. ends_by new_end (node_located.placed win n)) (λ n o. le-leb (node_located.placed win n).source_span.end new_end (omega (arith, c.inside n o, c.placed_end n o))) (grafted old reading).0 (new_nodes f).inside

  nodes_ordered : ordered 0 new.source_nodes ≡ true
  nodes_ordered =
      let s = f.old_sound in
      rw parts
      (ordered_join 0 r.start front (placed ++ moved) (omega arith) (ordered_keep (length old.sanitized) (ends_by r.start) 0 old.source_nodes s.places.source_spans s.places.order)
      (all_keep_self (ends_by r.start) old.source_nodes)
      (ordered_join r.start new_end placed moved (omega arith) (shift_ordered placed_shift 0 r.start (omega arith) (grafted old reading).0 (new_nodes f).inside (new_nodes f).order) placed_ends
      (shift_ordered moved_shift r.end new_end (omega arith) behind all_movable (behind_ordered s f.end_safe))))

  placed_spans : spans placed ≡ spans reading.source_nodes
  placed_spans = shift_spans placed_shift (grafted old reading).0 (new_nodes f).inside ∙ (new_nodes f).spans

  placed_images : images placed ≡ images reading.source_nodes
  placed_images = shift_images placed_shift (grafted old reading).0 (new_nodes f).inside ∙ (new_nodes f).images

  nodes_offsets : offsets_ok 0 0 new.source_nodes ≡ true
  nodes_offsets =
      let s = f.old_sound in
      let y₁ = normal_at s f.start_safe in
      let y₂ = normal_at s f.end_safe in
      let i = placed_images in
      let j = placed_spans in
      let o₂ : offsets_ok (0 + images front) (0 + spans front) placed ≡ true =
      shift_offsets placed_shift (grafted old reading).0 0 0 (0 + images front) (0 + spans front) (omega arith) (new_nodes f).inside (new_nodes f).offsets in
      let o₃ : offsets_ok (0 + images front + images placed) (0 + spans front + spans placed) moved ≡ true =
      shift_offsets moved_shift behind (images until) (spans until) (0 + images front + images placed) (0 + spans front + spans placed) (omega arith) all_movable (offsets_split s f.end_safe).1 in
      rw parts
      (offsets_append 0 0 front (placed ++ moved)
      ∙ join (offsets_ok 0 0 front) (offsets_ok (0 + images front) (0 + spans front) (placed ++ moved)) (offsets_split s f.start_safe).0
      (offsets_append (0 + images front) (0 + spans front) placed moved ∙ join (offsets_ok (0 + images front) (0 + spans front) placed) _ o₂ o₃))

  -- ---- the other lists

  normal_length : length new.normalized + s₁ ≡ length old.normalized + (length reading.normalized + s₀)
  unfolding merged_book merged_normalized window_of
  normal_length =
      let x = normal_region_rises f in
      let y = normal_inside f.old_sound f.end_safe f.inside in
      let l = splice_length s₀ s₁ reading.normalized old.normalized x y in
      omega arith

  pairs_in_lem : all (pair_ok (length new.sanitized)) new.pairs ≡ true
  unfolding merged_book pair_located window_of shifted_pair shifted
  pairs_in_lem =
      let size = length new.sanitized in
      spliced_all pair_located win (pair_ok (length old.sanitized)) (pair_ok (length reading.sanitized)) (pair_ok size) kept read rest old.pairs reading.pairs f.old_sound.places.pairs f.reading_sound.places.pairs
    where
      kept : (x : PairLink) → pair_ok (length old.sanitized) x ≡ true → x.closing.end ≤ r.start → pair_ok (length new.sanitized) x ≡ true
      kept x o h = let g = pair_facts (length old.sanitized) x o in pair_ok_lem (length new.sanitized) x (record { opens = g.opens; apart = g.apart; closes = g.closes; inside = omega (arith, grown) })

      read : (x : PairLink) → pair_ok (length reading.sanitized) x ≡ true → pair_ok (length new.sanitized) (pair_located.placed win x) ≡ true
      read x o =
          let g = pair_facts (length reading.sanitized) x o in
          let z = grown in
          let a = placed_number f x.opening.start (omega arith) in
          let b = placed_number f x.opening.end (omega arith) in
          let c = placed_number f x.closing.start (omega arith) in
          let d = placed_number f x.closing.end (omega arith) in
          pair_ok_lem (length new.sanitized) (pair_located.placed win x) (record { opens = omega arith; apart = omega arith; closes = omega arith; inside = omega arith })

      rest : (x : PairLink) → pair_ok (length old.sanitized) x ≡ true → r.end ≤ x.opening.start → pair_ok (length new.sanitized) (pair_located.moved win x) ≡ true
      rest x o h =
          let g = pair_facts (length old.sanitized) x o in
          let g₄ = g.inside in
          let z = length_sum f in
          let a = moved_sum f x.opening.start h (omega arith) in
          let b = moved_sum f x.opening.end (omega arith) (omega arith) in
          let c = moved_sum f x.closing.start (omega arith) (omega arith) in
          let d = moved_sum f x.closing.end (omega arith) g₄ in
          pair_ok_lem (length new.sanitized) (pair_located.moved win x) (record { opens = omega arith; apart = omega arith; closes = omega arith; inside = omega arith })

  diagnostics_in : all (diagnostic_ok (length new.sanitized)) new.diagnostics ≡ true
  unfolding merged_book diagnostic_located window_of
  diagnostics_in =
      let c = diagnostics_carried f in
      let size = length new.sanitized in
      let N = length old.sanitized in
      let R = length reading.sanitized in
      all_sort_is (diagnostic_ok size) (spliced diagnostic_located win old.diagnostics reading.diagnostics)
      ∙ (spliced_all diagnostic_located win (diagnostic_ok N) (diagnostic_ok R) (diagnostic_ok size)
      (λ d o h. diagnostic_ok_lem size d (diagnostic_facts N d o).0 (omega (arith, grown)))
      (λ d o. diagnostic_ok_lem size (diagnostic_located.placed win d) (omega (arith, (diagnostic_facts R d o).0, c.placed_start d o, c.placed_end d o)) (omega (arith, grown, c.inside d o, c.placed_end d o)))
      (λ d o h. diagnostic_ok_lem size (diagnostic_located.moved win d) (omega (arith, (diagnostic_facts N d o).0, c.moved_start d o h, c.moved_end d o h))
      (omega (arith, length_sum f, c.moved_end d o h, (diagnostic_facts N d o).1)))
      old.diagnostics reading.diagnostics f.old_sound.places.diagnostics f.reading_sound.places.diagnostics)

  containers_in : all (container_ok (length new.normalized)) new.container_pairs ≡ true
  unfolding merged_book container_located window_of
  containers_in =
      let c = (containers_wide f).carried in
      let size = length new.normalized in
      let z = normal_length in
      let y = normal_inside f.old_sound f.end_safe f.inside in
      let N = length old.normalized in
      let R = length reading.normalized in
      spliced_all container_located win (container_ok N) (container_ok R) (container_ok size)
      (λ x o h. container_ok_lem size x (container_facts N x o).0 (omega arith))
      (λ x o. let g = container_facts R x o in container_ok_lem size (container_located.placed win x) (omega arith) (omega arith))
      (λ x o h. let g = container_facts N x o in let m₁ = c.moved_start x o h in let m₂ = c.moved_end x o h in container_ok_lem size (container_located.moved win x) (omega arith) (omega arith))
      old.container_pairs reading.container_pairs f.old_sound.places.container_pairs f.reading_sound.places.container_pairs

  -- ---- 6 and 7

  pub places_ok_lem : places_ok new ≡ true
  unfolding places_ok
  places_ok_lem = rw (nodes_in, nodes_ordered, nodes_offsets, pairs_in_lem, containers_in, diagnostics_in)

  pub sizes_ok : normalized_length_ok new ≡ true
  unfolding normalized_length_ok
  sizes_ok =
      let s = f.old_sound in
      let y₁ = normal_at s f.start_safe in
      let y₂ = normal_at s f.end_safe in
      let l = length_sum f in
      let x = normal_length in
      let sp : spans new.source_nodes ≡ spans front + (spans reading.source_nodes + spans behind) =
      ap spans parts ∙ spans_append front (placed ++ moved) ∙ ap (λ (k : ℕ). spans front + k) (spans_append placed moved ∙ ap₂ (λ (a b : ℕ). a + b) placed_spans (shift_spans moved_shift behind all_movable)) in
      let im : images new.source_nodes ≡ images front + (images reading.source_nodes + images behind) =
      ap images parts ∙ images_append front (placed ++ moved) ∙ ap (λ (k : ℕ). images front + k) (images_append placed moved ∙ ap₂ (λ (a b : ℕ). a + b) placed_images (shift_images moved_shift behind all_movable)) in
      let so : spans old.source_nodes ≡ spans until + spans behind = ap spans (split s f.end_safe) ∙ spans_append until behind in
      let io : images old.source_nodes ≡ images until + images behind = ap images (split s f.end_safe) ∙ images_append until behind in
      eq-eqb (length new.normalized + spans new.source_nodes) (length new.sanitized + images new.source_nodes) (omega arith)
