-- Two corrections of one book with separate regions, E the earlier-lying and L the later-lying: the two orders give equal
-- texts, pairs, containers, diagnostics and shown nodes. Section 7.
use Rattle.std.specs.Prelude.{◌≡◌, ℕ, ◌+◌, ◌-◌, ◌≤◌, ◌<◌, Bool, false, ◌&&◌, ◌||◌, List, [], map, pos}
use Rattle.std.proofs.Math.Path.{refl, sym, ap}
use Rattle.std.proofs.Common.{ap₂, ◌∙◌, leb-true, ltb-true, le-leb}
use native.Mathlib.Omega.{arith}
use Rattle.std.proofs.Math.Bool.{true, not}
use Rattle.std.proofs.Math.ListN.{length}
use Rattle.std.proofs.Math.Dec.{leb, ltb}
use Rattle.model.specs.Lists.{all}
use Rattle.model.specs.Limits.{max_text}
use Rattle.model.specs.Offset.{Span, shift_clamp, shifted}
use Rattle.model.specs.Types.{PairLink, ContainerPair, Diagnostic, LexOutput, RegionOutput}
use Rattle.model.specs.WellFormed.{span_ok, pair_ok, container_ok, diagnostic_ok}
use Rattle.model.specs.Store.{store_of}
use Rattle.model.specs.Tree.{ShownNode, shown_node, shown_nodes}
use Rattle.model.specs.Region.{Edit, edited, behind_edit}
use Rattle.model.specs.Merge.{MergeWindow, IncrementalOutput, change_in_length, window_of, normalized_offset, moved_offset, kept_before, kept_behind, spliced, shifted_pair, pair_located, container_located, shifted_diagnostic, diagnostic_located, not_behind, sort_diagnostics, merged_normalized, merged_book}
use Rattle.model.specs.Once.{on_both_sides}
use Rattle.model.specs.Demand3.{moved_behind, region_behind}
use Rattle.facts.specs.Truth.{both}
use Rattle.facts.specs.Keep.{all_and, all_map_is, all_if}
use Rattle.laws.specs.Checks.{merged_of}
use Rattle.laws.specs.Splice.{splice_comm}
use Rattle.laws.specs.Sort.{sort_first, all_sort_is, not_behind_moved}
use Rattle.laws.specs.Located.{one_side, CarriedWide, kept_once, two_orders, two_orders_wide}
use Rattle.laws.specs.Marks.{unmarked_sides}
use Rattle.laws.specs.Nodes.{span_facts, diagnostic_facts, pair_facts, container_facts, starts_at, node_in, normal_rises, normal_inside, offsets_behind, offsets_small}
use Rattle.commute.specs.Merged.{Fit, p, q, region_rises, moved_sum, placed_number, length_sum, behind_sum, normal_region_rises, offset_sum, source_wide, pairs_wide, diagnostics_carried, containers_wide}
use Rattle.commute.specs.Orders.{FourMerges}
use Rattle.commute.specs.Places.{normal_before, normal_moves}
use Rattle.commute.specs.Step.{Step}
use Rattle.commute.specs.Shown.{shown_located, shown_merged}

-- A merge of a book whose diagnostics a merge has sorted: it might as well not be sorted.
pub sorted_again : {old : LexOutput} {e : Edit} {reading : RegionOutput} {r : Span} → Fit old e reading r → (ds : List Diagnostic) → old.diagnostics ≡ sort_diagnostics ds
    → (merged_of old e reading r).diagnostics ≡ sort_diagnostics (spliced diagnostic_located (window_of old e reading r) ds reading.diagnostics)
unfolding merged_book spliced kept_before kept_behind diagnostic_located shifted_diagnostic
sorted_again {old} {e} {reading} {r} f ds h =
    let w = window_of old e reading r in
    let ok : Diagnostic → Bool = diagnostic_ok (length old.sanitized) in
    ap (λ (l : List Diagnostic). sort_diagnostics (spliced diagnostic_located w l reading.diagnostics)) h
    ∙ sort_first ok (λ d. leb d.span.end w.source.start) (λ d. leb w.source.end d.span.start) (diagnostic_located.moved w) moved ds (map (diagnostic_located.placed w) reading.diagnostics)
    (sym (all_sort_is ok ds) ∙ rw h at f.old_sound.places.diagnostics)
  where
    moved : (d d₁ : Diagnostic) → diagnostic_ok (length old.sanitized) d ≡ true → diagnostic_ok (length old.sanitized) d₁ ≡ true
        → leb (window_of old e reading r).source.end d.span.start ≡ true → leb (window_of old e reading r).source.end d₁.span.start ≡ true
        → not_behind d d₁ ≡ false → not_behind (diagnostic_located.moved (window_of old e reading r) d) (diagnostic_located.moved (window_of old e reading r) d₁) ≡ false
    moved d d₁ o o₁ k k₁ n =
        let w = window_of old e reading r in
        let c = diagnostics_carried f in
        let z = leb-true w.source.end d.span.start k in
        let z₁ = leb-true w.source.end d₁.span.start k₁ in
        not_behind_moved d d₁ (diagnostic_located.moved w d) (diagnostic_located.moved w d₁) refl refl (p f) (q f) (c.moved_start d o z) (c.moved_end d o z) (c.moved_start d₁ o₁ z₁) (c.moved_end d₁ o₁ z₁) n

-- ---- the four merges

module _ {b : LexOutput} {E L : Edit} {RE RL : RegionOutput} {r_e r_l : Span} (m : FourMerges b E L RE RL r_e r_l) where
  abbrev pub b_e : LexOutput
  b_e = merged_of b E RE r_e

  abbrev pub b_l : LexOutput
  b_l = merged_of b L RL r_l

  abbrev pub L' : Edit
  L' = moved_behind E L

  abbrev pub w_e : MergeWindow
  w_e = window_of b E RE r_e

  abbrev pub w_l : MergeWindow
  w_l = window_of b L RL r_l

  abbrev pub w_l' : MergeWindow
  w_l' = window_of b_e L' RL (region_behind E r_l)

  abbrev pub p_e : ℕ
  p_e = p m.first_e

  abbrev pub q_e : ℕ
  q_e = q m.first_e

  moves : (o : ℕ) → r_e.end ≤ o → behind_edit E o + q_e ≡ o + p_e
  moves = behind_sum m.first_e

  pub start_moves : (region_behind E r_l).start + q_e ≡ r_l.start + p_e
  unfolding region_behind
  start_moves = moves r_l.start m.apart

  pub end_moves : (region_behind E r_l).end + q_e ≡ r_l.end + p_e
  unfolding region_behind
  end_moves = moves r_l.end (omega arith)

  -- ---- offsets of the text, moved in both orders

  pub twice_number : (o : ℕ) → r_l.end ≤ o → o ≤ length b.sanitized → shift_clamp (shift_clamp o (change_in_length E)) (change_in_length L') ≡ shift_clamp (shift_clamp o (change_in_length L)) (change_in_length E)
  unfolding moved_behind
  twice_number o h k =
      let g = m.first_l in
      let x₁ = moved_sum m.first_e o (omega arith) k in
      let y₁ = moved_sum g o h k in
      let e₁ = end_moves in
      let e₂ = moves L.end (omega arith) in
      let e₃ = moves L.start (omega arith) in
      let s₁ = length_sum m.first_e in
      let s₂ = length_sum g in
      let x₂ = moved_sum m.second_l (shift_clamp o (change_in_length E)) (omega arith) (omega arith) in
      let y₂ = moved_sum m.second_e (shift_clamp o (change_in_length L)) (omega arith) (omega arith) in
      omega arith

  pub placed_twice : (o : ℕ) → o ≤ length RL.sanitized → shift_clamp o (pos (region_behind E r_l).start) ≡ shift_clamp (shift_clamp o (pos r_l.start)) (change_in_length E)
  placed_twice o k =
      let x₁ = placed_number m.first_l o k in
      let x₂ = placed_number m.second_l o k in
      let e₁ = start_moves in
      let s = length_sum m.first_l in
      let y₂ : shift_clamp (o + r_l.start) (change_in_length E) + q_e ≡ o + r_l.start + p_e = moved_sum m.second_e (o + r_l.start) (omega arith) (omega arith) in
      rw (x₁, x₂) (omega arith)

  -- ---- offsets of the normalized text

  abbrev pub n_e : ℕ → ℕ
  n_e o = normalized_offset b.source_nodes o

  rise_e : n_e r_e.start ≤ n_e r_e.end
  rise_e = normal_region_rises m.first_e

  rise_m : n_e r_e.end ≤ n_e r_l.start
  rise_m = normal_rises m.first_e.old_sound m.first_e.end_safe r_l.start m.apart

  rise_n : n_e r_l.start ≤ n_e r_l.end
  rise_n = normal_region_rises m.first_l

  -- E's window is the same, merged first or second
  pub window_again : window_of b_l E RE r_e ≡ w_e
  unfolding window_of
  window_again =
      let a = m.apart in
      rw (normal_before m.first_l r_e.start (omega arith), normal_before m.first_l r_e.end a)

  pub start_moves_normal : w_l'.normalized.start + n_e r_e.end ≡ n_e r_l.start + (length RE.normalized + n_e r_e.start)
  unfolding window_of
  start_moves_normal = normal_moves m.first_e m.second_l.old_sound r_l.start (region_behind E r_l).start m.apart start_moves

  pub end_moves_normal : w_l'.normalized.end + n_e r_e.end ≡ n_e r_l.end + (length RE.normalized + n_e r_e.start)
  unfolding window_of
  end_moves_normal = normal_moves m.first_e m.second_l.old_sound r_l.end (region_behind E r_l).end (omega arith) end_moves

  pub twice_offset : (o : ℕ) → n_e r_l.end ≤ o → o ≤ max_text → moved_offset (moved_offset o w_e.normalized_delta) w_l'.normalized_delta ≡ moved_offset (moved_offset o w_l.normalized_delta) w_e.normalized_delta
  unfolding window_of
  twice_offset o h k =
      let r₁ = rise_e in
      let r₂ = rise_m in
      let r₃ = rise_n in
      let e₀ = start_moves_normal in
      let e₁ = end_moves_normal in
      let x₁ = offset_sum m.first_e o (omega arith) (omega arith) in
      let x₂ = offset_sum m.second_l (moved_offset o w_e.normalized_delta) (omega arith) (omega arith) in
      let y₁ = offset_sum m.first_l o h (omega arith) in
      let y₂ = offset_sum m.first_e (moved_offset o w_l.normalized_delta) (omega arith) (omega arith) in
      omega arith

  pub placed_offset : (o : ℕ) → o ≤ max_text → o + w_l'.normalized.start ≡ moved_offset (o + w_l.normalized.start) w_e.normalized_delta
  unfolding window_of
  placed_offset o k =
      let r₂ = rise_m in
      let l = normal_inside m.first_e.old_sound m.first_l.start_safe (omega arith) in
      let e = start_moves_normal in
      let x = offset_sum m.first_e (o + n_e r_l.start) (omega arith) (omega arith) in
      omega arith

  -- ---- the texts

  pub texts_agree : (merged_of b_e L' RL (region_behind E r_l)).sanitized ≡ (merged_of b_l E RE r_e).sanitized
  unfolding merged_book edited moved_behind behind_edit
  texts_agree =
      let f = m.first_e in
      let g = m.first_l in
      splice_comm E.start E.end L.start L.end E.replacement L.replacement b.sanitized f.rising (omega arith) g.rising (omega arith)

  -- ---- pairs

  pub pairs_agree : (merged_of b_e L' RL (region_behind E r_l)).pairs ≡ (merged_of b_l E RE r_e).pairs
  unfolding merged_book pair_located window_of shifted_pair shifted
  pairs_agree =
      let x = pairs_wide m.first_e in
      let y = pairs_wide m.first_l in
      two_orders_wide w_l' x.carried y.carried m.apart start_moves end_moves twice again x.wide x.wide_read y.wide_read b.pairs RE.pairs RL.pairs
      m.first_e.old_sound.places.pairs m.first_e.reading_sound.places.pairs m.first_l.reading_sound.places.pairs
      ∙ ap (λ (w : MergeWindow). spliced pair_located w (spliced pair_located w_l b.pairs RL.pairs) RE.pairs) (sym window_again)
    where
      twice : (x : PairLink) → pair_ok (length b.sanitized) x ≡ true → r_l.end ≤ x.opening.start → pair_located.moved w_l' (pair_located.moved w_e x) ≡ pair_located.moved w_e (pair_located.moved w_l x)
      twice x o h =
          let g = pair_facts (length b.sanitized) x o in
          let g₄ = g.inside in
          rw (twice_number x.opening.start h (omega arith), twice_number x.opening.end (omega arith) (omega arith), twice_number x.closing.start (omega arith) (omega arith), twice_number x.closing.end (omega arith) g₄)

      again : (x : PairLink) → pair_ok (length RL.sanitized) x ≡ true → pair_located.placed w_l' x ≡ pair_located.moved w_e (pair_located.placed w_l x)
      again x o =
          let g = pair_facts (length RL.sanitized) x o in
          let g₄ = g.inside in
          rw (placed_twice x.opening.start (omega arith), placed_twice x.opening.end (omega arith), placed_twice x.closing.start (omega arith), placed_twice x.closing.end g₄)

  -- ---- containers

  pub containers_agree : (merged_of b_e L' RL (region_behind E r_l)).container_pairs ≡ (merged_of b_l E RE r_e).container_pairs
  unfolding merged_book container_located window_of
  containers_agree =
      let x = containers_wide m.first_e in
      let y = containers_wide m.first_l in
      two_orders_wide w_l' x.carried y.carried rise_m start_moves_normal end_moves_normal twice again x.wide x.wide_read y.wide_read b.container_pairs RE.container_pairs RL.container_pairs
      m.first_e.old_sound.places.container_pairs m.first_e.reading_sound.places.container_pairs m.first_l.reading_sound.places.container_pairs
      ∙ ap (λ (w : MergeWindow). spliced container_located w (spliced container_located w_l b.container_pairs RL.container_pairs) RE.container_pairs) (sym window_again)
    where
      twice : (x : ContainerPair) → container_ok (length b.normalized) x ≡ true → w_l.normalized.end ≤ x.opening → container_located.moved w_l' (container_located.moved w_e x) ≡ container_located.moved w_e (container_located.moved w_l x)
      twice x o h =
          let g = container_facts (length b.normalized) x o in
          rw (twice_offset x.opening h (omega arith), twice_offset x.closing (omega arith) (omega arith))

      again : (x : ContainerPair) → container_ok (length RL.normalized) x ≡ true → container_located.placed w_l' x ≡ container_located.moved w_e (container_located.placed w_l x)
      again x o =
          let g = container_facts (length RL.normalized) x o in
          rw (placed_offset x.opening (omega arith), placed_offset x.closing (omega arith))

  -- ---- diagnostics

  -- beside the second merge's region none counts on both sides
  once_later : on_both_sides diagnostic_located w_l' (spliced diagnostic_located w_e b.diagnostics RE.diagnostics) ≡ []
  unfolding merged_book window_of
  once_later =
      let ds = spliced diagnostic_located w_e b.diagnostics RE.diagnostics in
      kept_once diagnostic_located w_l' ds
      (sym (all_sort_is (one_side diagnostic_located w_l') ds)
      ∙ unmarked_sides w_l' (length b_e.sanitized) (region_rises m.second_l) b_e.diagnostics m.unmarked_l m.second_l.old_sound.places.diagnostics)

  once_earlier : on_both_sides diagnostic_located w_e (spliced diagnostic_located w_l b.diagnostics RL.diagnostics) ≡ []
  unfolding merged_book window_of
  once_earlier =
      let ds = spliced diagnostic_located w_l b.diagnostics RL.diagnostics in
      kept_once diagnostic_located w_e ds
      (sym (all_sort_is (one_side diagnostic_located w_e) ds)
      ∙ unmarked_sides w_e (length b_l.sanitized) (region_rises m.first_e) b_l.diagnostics m.unmarked_e m.second_e.old_sound.places.diagnostics)

  unsorted_agree : spliced diagnostic_located w_l' (spliced diagnostic_located w_e b.diagnostics RE.diagnostics) RL.diagnostics
      ≡ spliced diagnostic_located w_e (spliced diagnostic_located w_l b.diagnostics RL.diagnostics) RE.diagnostics
  unfolding diagnostic_located window_of shifted_diagnostic shifted
  unsorted_agree =
      two_orders w_l' (diagnostics_carried m.first_e) (diagnostics_carried m.first_l) m.apart start_moves end_moves twice again b.diagnostics RE.diagnostics RL.diagnostics
      m.first_e.old_sound.places.diagnostics m.first_e.reading_sound.places.diagnostics m.first_l.reading_sound.places.diagnostics once_later once_earlier
    where
      twice : (d : Diagnostic) → diagnostic_ok (length b.sanitized) d ≡ true → r_l.end ≤ d.span.start → diagnostic_located.moved w_l' (diagnostic_located.moved w_e d) ≡ diagnostic_located.moved w_e (diagnostic_located.moved w_l d)
      twice d o h = let g = diagnostic_facts (length b.sanitized) d o in let g₂ = g.1 in rw (twice_number d.span.start h (omega arith), twice_number d.span.end (omega arith) g₂)

      again : (d : Diagnostic) → diagnostic_ok (length RL.sanitized) d ≡ true → diagnostic_located.placed w_l' d ≡ diagnostic_located.moved w_e (diagnostic_located.placed w_l d)
      again d o = let g = diagnostic_facts (length RL.sanitized) d o in let g₂ = g.1 in rw (placed_twice d.span.start (omega arith), placed_twice d.span.end g₂)

  pub diagnostics_agree : (merged_of b_e L' RL (region_behind E r_l)).diagnostics ≡ (merged_of b_l E RE r_e).diagnostics
  unfolding merged_book
  diagnostics_agree =
      sorted_again m.second_l (spliced diagnostic_located w_e b.diagnostics RE.diagnostics) refl
      ∙ ap sort_diagnostics (unsorted_agree ∙ ap (λ (w : MergeWindow). spliced diagnostic_located w (spliced diagnostic_located w_l b.diagnostics RL.diagnostics) RE.diagnostics) (sym window_again))
      ∙ sym (sorted_again m.second_e (spliced diagnostic_located w_l b.diagnostics RL.diagnostics) refl)

  -- ---- the normalized text

  pub normalized_agree : (merged_of b_e L' RL (region_behind E r_l)).normalized ≡ (merged_of b_l E RE r_e).normalized
  unfolding merged_book merged_normalized window_of
  normalized_agree =
      let a = m.apart in
      let r₁ = rise_e in
      let r₂ = rise_m in
      let r₃ = rise_n in
      let l = normal_inside m.first_e.old_sound m.first_l.end_safe m.first_l.inside in
      let e₀ = start_moves_normal in
      let e₁ = end_moves_normal in
      let x₀ : normalized_offset b_e.source_nodes (region_behind E r_l).start ≡ n_e r_l.start + length RE.normalized - (n_e r_e.end - n_e r_e.start) = omega arith in
      let x₁ : normalized_offset b_e.source_nodes (region_behind E r_l).end ≡ n_e r_l.end + length RE.normalized - (n_e r_e.end - n_e r_e.start) = omega arith in
      rw (x₀, x₁, normal_before m.first_l r_e.start (omega arith), normal_before m.first_l r_e.end a)
      (splice_comm (n_e r_e.start) (n_e r_e.end) (n_e r_l.start) (n_e r_l.end) RE.normalized RL.normalized b.normalized r₁ r₂ r₃ l)

  -- ---- nodes with their trees

  -- behind L's region a node's offset lies behind the region's place
  abbrev in_book : ShownNode → Bool
  in_book n = span_ok (length b.sanitized) n.source_span && ((not (leb r_l.end n.source_span.start) || leb (normalized_offset b.source_nodes r_l.end) n.normalized_offset) && ltb n.normalized_offset (length b.normalized))

  abbrev in_earlier : ShownNode → Bool
  in_earlier n = span_ok (length RE.sanitized) n.source_span

  abbrev in_later : ShownNode → Bool
  in_later n = span_ok (length RL.sanitized) n.source_span && ltb n.normalized_offset (length RL.normalized)

  all_in_book : all in_book (shown_nodes b) ≡ true
  unfolding shown_nodes shown_node
  all_in_book =
      let s = m.first_e.old_sound in
      let ns = b.source_nodes in
      all_map_is in_book (shown_node (store_of b.layers)) ns
      ∙ all_and (node_in (length b.sanitized)) (λ n. (not (starts_at r_l.end n) || leb (normalized_offset ns r_l.end) n.normalized_offset) && ltb n.normalized_offset (length b.normalized)) ns s.places.source_spans
      (all_and (λ n. not (starts_at r_l.end n) || leb (normalized_offset ns r_l.end) n.normalized_offset) (λ n. ltb n.normalized_offset (length b.normalized)) ns
      (all_if (λ n. leb (normalized_offset ns r_l.end) n.normalized_offset) (starts_at r_l.end) ns (offsets_behind s m.first_l.end_safe)) (offsets_small s))

  all_in_earlier : all in_earlier (shown_nodes RE) ≡ true
  unfolding shown_nodes shown_node
  all_in_earlier = all_map_is in_earlier (shown_node (store_of RE.layers)) RE.source_nodes ∙ m.first_e.reading_sound.places.source_spans

  all_in_later : all in_later (shown_nodes RL) ≡ true
  unfolding shown_nodes shown_node
  all_in_later =
      let s = m.first_l.reading_sound in
      all_map_is in_later (shown_node (store_of RL.layers)) RL.source_nodes
      ∙ all_and (node_in (length RL.sanitized)) (λ n. ltb n.normalized_offset (length RL.normalized)) RL.source_nodes s.places.source_spans (offsets_small s)

  splices_agree : spliced shown_located w_l' (spliced shown_located w_e (shown_nodes b) (shown_nodes RE)) (shown_nodes RL)
      ≡ spliced shown_located w_e (spliced shown_located w_l (shown_nodes b) (shown_nodes RL)) (shown_nodes RE)
  unfolding shown_located window_of shifted
  splices_agree =
      two_orders_wide w_l' shown_e.carried shown_l.carried m.apart start_moves end_moves twice again shown_e.wide shown_e.wide_read shown_l.wide_read
      (shown_nodes b) (shown_nodes RE) (shown_nodes RL) all_in_book all_in_earlier all_in_later
    where
      place_of : (n : ShownNode) → in_book n ≡ true → (n.source_span.start < n.source_span.end) × (n.source_span.end ≤ length b.sanitized)
      place_of n o = span_facts (length b.sanitized) n.source_span (both (span_ok (length b.sanitized) n.source_span) _ o).0

      shown_e : CarriedWide shown_located w_e in_book in_earlier (length RE.sanitized) p_e q_e
      shown_e = source_wide m.first_e shown_located in_book in_earlier refl (λ n. (refl, refl)) (λ n. (refl, refl)) place_of (λ n o. span_facts (length RE.sanitized) n.source_span o)

      shown_l : CarriedWide shown_located w_l in_book in_later (length RL.sanitized) (p m.first_l) (q m.first_l)
      shown_l =
          source_wide m.first_l shown_located in_book in_later refl (λ n. (refl, refl)) (λ n. (refl, refl)) place_of
          (λ n o. span_facts (length RL.sanitized) n.source_span (both (span_ok (length RL.sanitized) n.source_span) _ o).0)

      twice : (n : ShownNode) → in_book n ≡ true → r_l.end ≤ n.source_span.start
          → shown_located.moved w_l' (shown_located.moved w_e n) ≡ shown_located.moved w_e (shown_located.moved w_l n)
      twice n o h =
          let at = normalized_offset b.source_nodes r_l.end in
          let u = both (span_ok (length b.sanitized) n.source_span) _ o in
          let v = both (not (leb r_l.end n.source_span.start) || leb at n.normalized_offset) (ltb n.normalized_offset (length b.normalized)) u.1 in
          let k : leb at n.normalized_offset ≡ true = rw (le-leb r_l.end n.source_span.start h) at v.0 in
          let g = place_of n o in
          let g₂ = g.1 in
          let x = ltb-true n.normalized_offset (length b.normalized) v.1 in
          rw (twice_number n.source_span.start h (omega arith), twice_number n.source_span.end (omega arith) g₂, twice_offset n.normalized_offset (leb-true at n.normalized_offset k) (omega arith))

      again : (n : ShownNode) → in_later n ≡ true → shown_located.placed w_l' n ≡ shown_located.moved w_e (shown_located.placed w_l n)
      again n o =
          let u = both (span_ok (length RL.sanitized) n.source_span) (ltb n.normalized_offset (length RL.normalized)) o in
          let g = span_facts (length RL.sanitized) n.source_span u.0 in
          let g₂ = g.1 in
          let x = ltb-true n.normalized_offset (length RL.normalized) u.1 in
          rw (placed_twice n.source_span.start (omega arith), placed_twice n.source_span.end g₂, placed_offset n.normalized_offset (omega arith))

  -- The nodes of the two final books show the same.
  pub nodes_agree : {m₁ m₂ m₃ m₄ : IncrementalOutput} → Step b E r_e RE m₁ → Step b_e L' (region_behind E r_l) RL m₂ → Step b L r_l RL m₃ → Step b_l E r_e RE m₄
      → shown_nodes (merged_of b_e L' RL (region_behind E r_l)) ≡ shown_nodes (merged_of b_l E RE r_e)
  nodes_agree s₁ s₂ s₃ s₄ =
      shown_merged s₂
      ∙ ap (λ (l : List ShownNode). spliced shown_located w_l' l (shown_nodes RL)) (shown_merged s₁)
      ∙ splices_agree
      ∙ sym (shown_merged s₄ ∙ ap₂ (λ (w : MergeWindow) (l : List ShownNode). spliced shown_located w l (shown_nodes RE)) window_again (shown_merged s₃))
