-- One accepted merge, as numbers: where each element of the merged lists lies, and that section 6's safe cuts up to the region's
-- start and behind its end are those of the old book.
use Rattle.std.specs.Prelude.{◌≡◌, ◌&&◌, pos}
use Rattle.std.proofs.Math.Path.{refl, sym, ap, ap₂}
use Rattle.std.proofs.Common.{◌∙◌}
use Prim.Native.Nat.{ℕ, suc, ◌+◌, ◌-◌, ◌≤◌, ◌<◌}
use native.Mathlib.Omega.{arith}
use Rattle.std.proofs.Math.Bool.{Bool, true, false, not}
use Rattle.std.proofs.Math.Option.{some}
use mathlib.Core.List.{List, ◌++◌, map}
use Rattle.std.proofs.Math.ListN.{length, get_or}
use Rattle.std.proofs.Math.Dec.{ltb, eqb}
use borrow.Author.Tests.{leb-true, ltb-true, ltb-false, not-true, le-ltb, lt-ltb}
use Rattle.model.specs.Lists.{any, keep}
use Rattle.model.specs.Limits.{max_text}
use Rattle.model.specs.Offset.{Span, shift_clamp, shifted, shift_u32}
use Rattle.model.specs.Types.{SourceNode, PairLink, LexOutput, RegionOutput}
use Rattle.model.specs.WellFormed.{pair_ok, container_ok, diagnostic_ok}
use Rattle.model.specs.Region.{Edit, edited, behind_edit, depth, is_block_open, is_block_close, is_warichu_open, is_warichu_close, nodes_before, nodes_allow_cut, pairs_allow_cut}
use Rattle.model.specs.Merge.{MergeWindow, change_in_length, window_of, normalized_offset, moved_offset, Located, kept_before, kept_behind, spliced, node_located, shifted_pair, pair_located, container_located, shifted_diagnostic, diagnostic_located, balanced_nodes, grafted, merged_book}
use Rattle.facts.specs.Truth.{both, same_le}
use Rattle.facts.specs.Keep.{keep_append, keep_all, all_kept, any_all}
use Rattle.laws.specs.Checks.{merged_of}
use Rattle.laws.specs.Shift.{shift_up, shift_by, offset_by, shift_answers}
use Rattle.laws.specs.Splice.{splice_length, byte_front, byte_rest}
use Rattle.laws.specs.Located.{start_of, end_of, Carried, CarriedWide, keep_front, keep_rest, across_front, across_rest}
use Rattle.laws.specs.Nodes.{Sound, span_facts, diagnostic_facts, pair_facts, container_facts, ends_by, starts_at, node_in, across_node, SafeCut, before_split, split, normal_rises, depth_append, depth_map}
use Rattle.commute.specs.Cut.{SameBehind}
use Rattle.commute.specs.Outline.{GraftedNodes, grafted_nodes}

pub record Fit (old : LexOutput) (e : Edit) (reading : RegionOutput) (r : Span) : Type 0 where
  pub old_sound : Sound old
  pub reading_sound : Sound reading
  pub starts_before : r.start ≤ e.start
  pub rising : e.start ≤ e.end
  pub ends_behind : e.end ≤ r.end
  pub inside : r.end ≤ length old.sanitized
  pub strictly : e.end < length old.sanitized → e.end < r.end
  -- number 12
  pub size : r.start + length reading.sanitized + e.end ≡ r.end + (length e.replacement + e.start)
  -- number 3 of the new text
  pub limit : length old.sanitized + (length e.replacement + e.start) ≤ max_text + e.end
  pub start_safe : SafeCut old r.start
  pub end_safe : SafeCut old r.end
  -- number 13
  pub balanced : balanced_nodes reading.source_nodes ≡ true

module _ {old : LexOutput} {e : Edit} {reading : RegionOutput} {r : Span} (f : Fit old e reading r) where
  abbrev pub w : MergeWindow
  w = window_of old e reading r

  -- ---- offsets, with nothing taken away: what lies behind the region goes + p − q

  abbrev pub p : ℕ
  p = length e.replacement + e.start

  abbrev pub q : ℕ
  q = e.end

  pub region_rises : r.start ≤ r.end
  region_rises = omega arith

  pub moved_sum : (o : ℕ) → r.end ≤ o → o ≤ length old.sanitized → shift_clamp o (change_in_length e) + q ≡ o + p
  unfolding change_in_length
  moved_sum o h k =
      rw (shift_by o (length e.replacement) (e.end - e.start) (omega arith) (omega arith)) (omega arith)

  pub placed_number : (o : ℕ) → o ≤ length reading.sanitized → shift_clamp o (pos r.start) ≡ o + r.start
  placed_number o h =
      shift_up o r.start (omega arith)

  pub length_sum : length (merged_of old e reading r).sanitized + q ≡ length old.sanitized + p
  unfolding merged_book edited
  length_sum =
      let a = f.rising in
      rw (splice_length e.start e.end e.replacement old.sanitized a (omega arith)) (omega arith)

  pub behind_sum : (o : ℕ) → r.end ≤ o → behind_edit e o + q ≡ o + p
  unfolding behind_edit
  behind_sum o h = omega arith

  -- the same in the normalized text
  abbrev pub start_n : ℕ
  start_n = normalized_offset old.source_nodes r.start

  abbrev pub end_n : ℕ
  end_n = normalized_offset old.source_nodes r.end

  pub normal_region_rises : start_n ≤ end_n
  normal_region_rises = normal_rises f.old_sound f.start_safe r.end region_rises

  pub offset_sum : (o : ℕ) → end_n ≤ o → o ≤ 1000000000 → moved_offset o w.normalized_delta + end_n ≡ o + (length reading.normalized + start_n)
  unfolding window_of
  offset_sum o h k =
      let b = normal_region_rises in
      rw (offset_by o (length reading.normalized) (end_n - start_n) (omega arith) (omega arith)) (omega arith)

  -- `shift_u32` has an answer there
  pub offset_answers : (o : ℕ) → end_n ≤ o → o ≤ 1000000000 → shift_u32 o w.normalized_delta ≡ some (moved_offset o w.normalized_delta)
  unfolding window_of
  offset_answers o h k =
      let b = normal_region_rises in
      shift_answers o (length reading.normalized) (end_n - start_n) (omega arith) (omega arith)

  -- ---- the four kinds

  -- a kind that is measured in the text
  module _ {A : Type 0} (l : Located A) (ok okR : A → Bool) (at : l.window w ≡ r)
      (placed : (x : A) → (start_of l (l.placed w x) ≡ shift_clamp (start_of l x) (pos r.start)) × (end_of l (l.placed w x) ≡ shift_clamp (end_of l x) (pos r.start)))
      (moved : (x : A) → (start_of l (l.moved w x) ≡ shift_clamp (start_of l x) (change_in_length e)) × (end_of l (l.moved w x) ≡ shift_clamp (end_of l x) (change_in_length e))) where
    pub source_carried : ((x : A) → ok x ≡ true → (start_of l x ≤ end_of l x) × (end_of l x ≤ length old.sanitized))
        → ((x : A) → okR x ≡ true → (start_of l x ≤ end_of l x) × (end_of l x ≤ length reading.sanitized))
        → Carried l w ok okR (length reading.sanitized) p q
    source_carried i j =
        let s = ap (λ (x : Span). x.start) at in
        let t = ap (λ (x : Span). x.end) at in
        record {
          rising = omega (arith, region_rises);
          sizes = omega arith;
          inside = λ x o. (j x o).1;
          moved_start = λ x o h. ap (λ (k : ℕ). k + q) (moved x).0 ∙ moved_sum (start_of l x) (omega arith) (omega (arith, (i x o).0, (i x o).1));
          moved_end = λ x o h. ap (λ (k : ℕ). k + q) (moved x).1 ∙ moved_sum (end_of l x) (omega (arith, (i x o).0)) (i x o).1;
          placed_start = λ x o. (placed x).0 ∙ placed_number (start_of l x) (omega (arith, (j x o).0, (j x o).1)) ∙ ap (λ (k : ℕ). start_of l x + k) (sym s);
          placed_end = λ x o. (placed x).1 ∙ placed_number (end_of l x) (j x o).1 ∙ ap (λ (k : ℕ). end_of l x + k) (sym s);
        }

    -- whose elements are not empty
    pub source_wide : ((x : A) → ok x ≡ true → (start_of l x < end_of l x) × (end_of l x ≤ length old.sanitized))
        → ((x : A) → okR x ≡ true → (start_of l x < end_of l x) × (end_of l x ≤ length reading.sanitized))
        → CarriedWide l w ok okR (length reading.sanitized) p q
    source_wide i j = record {
      carried = source_carried (λ x o. (omega (arith, (i x o).0), (i x o).1)) (λ x o. (omega (arith, (j x o).0), (j x o).1));
      wide = λ x o. (i x o).0;
      wide_read = λ x o. (j x o).0;
    }

  pub nodes_wide : CarriedWide node_located w (node_in (length old.sanitized)) (node_in (length reading.sanitized)) (length reading.sanitized) p q
  unfolding node_located window_of shifted
  nodes_wide =
      source_wide node_located (node_in (length old.sanitized)) (node_in (length reading.sanitized)) refl (λ n. (refl, refl)) (λ n. (refl, refl))
      (λ n o. span_facts (length old.sanitized) n.source_span o) (λ n o. span_facts (length reading.sanitized) n.source_span o)

  pub diagnostics_carried : Carried diagnostic_located w (diagnostic_ok (length old.sanitized)) (diagnostic_ok (length reading.sanitized)) (length reading.sanitized) p q
  unfolding diagnostic_located shifted_diagnostic window_of shifted
  diagnostics_carried =
      source_carried diagnostic_located (diagnostic_ok (length old.sanitized)) (diagnostic_ok (length reading.sanitized)) refl (λ d. (refl, refl)) (λ d. (refl, refl))
      (diagnostic_facts (length old.sanitized)) (diagnostic_facts (length reading.sanitized))

  pub pairs_wide : CarriedWide pair_located w (pair_ok (length old.sanitized)) (pair_ok (length reading.sanitized)) (length reading.sanitized) p q
  unfolding pair_located shifted_pair window_of shifted
  pairs_wide =
      source_wide pair_located (pair_ok (length old.sanitized)) (pair_ok (length reading.sanitized)) refl (λ p. (refl, refl)) (λ p. (refl, refl))
      (outer (length old.sanitized)) (outer (length reading.sanitized))
    where
      outer : (size : ℕ) (x : PairLink) → pair_ok size x ≡ true → (x.opening.start < x.closing.end) × (x.closing.end ≤ size)
      outer size x o = let g = pair_facts size x o in (omega (arith, g.opens, g.apart, g.closes), g.inside)

  pub containers_wide : CarriedWide container_located w (container_ok (length old.normalized)) (container_ok (length reading.normalized)) (length reading.normalized) (length reading.normalized + start_n) end_n
  unfolding container_located window_of
  containers_wide = record {
    carried = record {
      rising = normal_region_rises;
      sizes = omega arith;
      inside = λ x o. omega (arith, (container_facts (length reading.normalized) x o).1);
      moved_start = λ x o h. let g = container_facts (length old.normalized) x o in offset_sum x.opening h (omega (arith, g.0, g.1, f.old_sound.normalized));
      moved_end = λ x o h.
          let g = container_facts (length old.normalized) x o in
          let y = offset_sum x.closing (omega (arith, g.0, h)) (omega (arith, g.1, f.old_sound.normalized)) in
          omega arith;
      placed_start = λ x o. refl;
      placed_end = λ x o. omega arith;
    };
    wide = λ x o. omega (arith, (container_facts (length old.normalized) x o).0);
    wide_read = λ x o. omega (arith, (container_facts (length reading.normalized) x o).0);
  }

  -- ---- up to the region's start

  pub text_before : (i : ℕ) → i < r.start → get_or (edited old.sanitized e) i 0 ≡ get_or old.sanitized i 0
  unfolding edited
  text_before i h = byte_front e.start e.end e.replacement old.sanitized f.rising (omega arith) i (omega arith)

  -- the grafted nodes lie as the reading's
  pub new_nodes : GraftedNodes old reading
  new_nodes = grafted_nodes old reading f.reading_sound f.balanced

  pub nodes_before_lem : (o : ℕ) → o ≤ r.start → nodes_allow_cut (merged_of old e reading r).source_nodes o ≡ nodes_allow_cut old.source_nodes o
  unfolding nodes_allow_cut nodes_before merged_book node_located window_of
  nodes_before_lem o h =
      let in_old = f.old_sound.places.source_spans in
      let x = across_front nodes_wide old.source_nodes (grafted old reading).0 in_old new_nodes.inside o h f.start_safe.nodes in
      let y = keep_front nodes_wide old.source_nodes (grafted old reading).0 in_old new_nodes.inside
      (λ n. ltb n.source_span.start o) (λ n. not (across_node r.start n)) fails ends (any_all (across_node r.start) old.source_nodes f.start_safe.nodes) in
      ap₂ (λ (s : Bool) (ns : List SourceNode). not s && eqb (depth is_block_open is_block_close 0 ns) 0 && eqb (depth is_warichu_open is_warichu_close 0 ns) 0) x y
    where
      fails : (n : SourceNode) → r.start ≤ n.source_span.start → n.source_span.start < n.source_span.end → ltb n.source_span.start o ≡ false
      fails n k g = le-ltb n.source_span.start o (omega arith)

      ends : (n : SourceNode) → not (across_node r.start n) ≡ true → ltb n.source_span.start o ≡ true → n.source_span.end ≤ r.start
      ends n k t =
          let s = ltb-true n.source_span.start o t in
          let z : ltb r.start n.source_span.end ≡ false = rw (lt-ltb n.source_span.start r.start (omega arith)) at (not-true (across_node r.start n) k) in
          ltb-false r.start n.source_span.end z

  pub pairs_before_lem : (o : ℕ) → o ≤ r.start → pairs_allow_cut (merged_of old e reading r).pairs o ≡ pairs_allow_cut old.pairs o
  unfolding pairs_allow_cut merged_book pair_located window_of
  pairs_before_lem o h =
      ap not (across_front pairs_wide old.pairs reading.pairs f.old_sound.places.pairs f.reading_sound.places.pairs o h f.start_safe.pairs)

  -- ---- behind its end

  abbrev end' : ℕ
  end' = r.start + length reading.sanitized

  pub end_moved : behind_edit e r.end ≡ end'
  end_moved = let x = behind_sum r.end (omega arith) in omega arith

  text_behind : (i i' : ℕ) → e.end ≤ i → i' + q ≡ i + p → get_or (edited old.sanitized e) i' 0 ≡ get_or old.sanitized i 0
  unfolding edited
  text_behind i i' h g =
      let a = f.rising in
      let n : i' ≡ e.start + length e.replacement + (i - e.end) = omega arith in
      let m : e.end + (i - e.end) ≡ i = omega arith in
      rw n (byte_rest e.start e.end e.replacement old.sanitized a (omega arith) (i - e.end) ∙ ap (λ (k : ℕ). get_or old.sanitized k 0) m)

  pairs_behind_lem : (k : ℕ) → pairs_allow_cut (merged_of old e reading r).pairs (end' + suc k) ≡ pairs_allow_cut old.pairs (r.end + suc k)
  unfolding pairs_allow_cut merged_book pair_located window_of
  pairs_behind_lem k =
      ap not (across_rest pairs_wide old.pairs reading.pairs f.old_sound.places.pairs f.reading_sound.places.pairs k f.end_safe.pairs)

  -- the depth at a cut behind the region is that of the nodes between
  module _ (opens closes : SourceNode → Bool) (moved : (n : SourceNode) → (opens (node_located.moved w n) ≡ opens n) × (closes (node_located.moved w n) ≡ closes n))
      (placed : (n : SourceNode) → (opens (node_located.placed w n) ≡ opens n) × (closes (node_located.placed w n) ≡ closes n))
      (at_start : depth opens closes 0 (nodes_before r.start old.source_nodes) ≡ 0) (atEnd : depth opens closes 0 (nodes_before r.end old.source_nodes) ≡ 0) (read : depth opens closes 0 (grafted old reading).0 ≡ 0) where
    depth_behind_lem : (k : ℕ) → depth opens closes 0 (nodes_before (end' + suc k) (merged_of old e reading r).source_nodes) ≡ depth opens closes 0 (nodes_before (r.end + suc k) old.source_nodes)
    unfolding nodes_before merged_book node_located window_of kept_before kept_behind
    depth_behind_lem k =
        let size = length old.sanitized in
        let in_old = f.old_sound.places.source_spans in
        let t : SourceNode → Bool = λ n. ltb n.source_span.start (r.end + suc k) in
        let t' : SourceNode → Bool = λ n. ltb n.source_span.start (end' + suc k) in
        let front = keep (ends_by r.start) old.source_nodes in
        let until = keep (ends_by r.end) old.source_nodes in
        let behind = keep (starts_at r.end) old.source_nodes in
        let G = map (node_located.placed w) (grafted old reading).0 in
        let M = map (node_located.moved w) (keep t behind) in
        let new : keep t' (spliced node_located w old.source_nodes (grafted old reading).0) ≡ front ++ (G ++ M) =
        keep_rest nodes_wide old.source_nodes (grafted old reading).0 in_old new_nodes.inside t t'
        (λ n g h. lt-ltb n.source_span.start (end' + suc k) (omega arith)) in_moved in
        let kept : keep t old.source_nodes ≡ until ++ keep t behind =
        ap (keep t) (split f.old_sound f.end_safe) ∙ keep_append t until behind
        ∙ ap (λ (l : List SourceNode). l ++ keep t behind) (keep_all (λ n. node_in size n && ends_by r.end n) t in_until until (all_kept (node_in size) (ends_by r.end) old.source_nodes in_old)) in
        let d_f : depth opens closes 0 front ≡ 0 = ap (depth opens closes 0) (sym (before_split size r.start old.source_nodes in_old f.start_safe.nodes)) ∙ at_start in
        let d_u : depth opens closes 0 until ≡ 0 = ap (depth opens closes 0) (sym (before_split size r.end old.source_nodes in_old f.end_safe.nodes)) ∙ atEnd in
        let d_g : depth opens closes 0 G ≡ 0 = depth_map opens closes (node_located.placed w) (λ n. (placed n).0) (λ n. (placed n).1) 0 (grafted old reading).0 ∙ read in
        ap (depth opens closes 0) new
        ∙ depth_append opens closes 0 front (G ++ M) ∙ ap (λ (d : ℕ). depth opens closes d (G ++ M)) d_f
        ∙ depth_append opens closes 0 G M ∙ ap (λ (d : ℕ). depth opens closes d M) d_g
        ∙ depth_map opens closes (node_located.moved w) (λ n. (moved n).0) (λ n. (moved n).1) 0 (keep t behind)
        ∙ sym (ap (depth opens closes 0) kept ∙ depth_append opens closes 0 until (keep t behind) ∙ ap (λ (d : ℕ). depth opens closes d (keep t behind)) d_u)
      where
        in_moved : (n : SourceNode) → node_in (length old.sanitized) n ≡ true → r.end ≤ n.source_span.start → ltb (node_located.moved w n).source_span.start (end' + suc k) ≡ ltb n.source_span.start (r.end + suc k)
        in_moved n o h =
            let m = nodes_wide.carried.moved_start n o h in
            same_le (suc (node_located.moved w n).source_span.start) (end' + suc k) (suc n.source_span.start) (r.end + suc k) (omega arith) (omega arith)

        in_until : (n : SourceNode) → node_in (length old.sanitized) n && ends_by r.end n ≡ true → ltb n.source_span.start (r.end + suc k) ≡ true
        in_until n o =
            let s = both (node_in (length old.sanitized) n) (ends_by r.end n) o in
            let g = (span_facts (length old.sanitized) n.source_span s.0).0 in
            let l = leb-true n.source_span.end r.end s.1 in
            lt-ltb n.source_span.start (r.end + suc k) (omega arith)

  nodes_behind_lem : (k : ℕ) → r.end < length old.sanitized → nodes_allow_cut (merged_of old e reading r).source_nodes (end' + suc k) ≡ nodes_allow_cut old.source_nodes (r.end + suc k)
  unfolding nodes_allow_cut merged_book node_located window_of
  nodes_behind_lem k inner =
      let x = across_rest nodes_wide old.source_nodes (grafted old reading).0 f.old_sound.places.source_spans new_nodes.inside k f.end_safe.nodes in
      let y = depth_behind_lem is_block_open is_block_close (λ n. (refl, refl)) (λ n. (refl, refl)) (f.start_safe.blocks (omega arith)) (f.end_safe.blocks inner) new_nodes.blocks k in
      let z = depth_behind_lem is_warichu_open is_warichu_close (λ n. (refl, refl)) (λ n. (refl, refl)) (f.start_safe.warichu (omega arith)) (f.end_safe.warichu inner) new_nodes.warichu k in
      ap₂ (λ (s : Bool) (d : ℕ). not s && eqb d 0 && eqb (depth is_warichu_open is_warichu_close 0 (nodes_before (end' + suc k) (merged_of old e reading r).source_nodes)) 0) x y
      ∙ ap (λ (d : ℕ). not (any (across_node (r.end + suc k)) old.source_nodes) && eqb (depth is_block_open is_block_close 0 (nodes_before (r.end + suc k) old.source_nodes)) 0 && eqb d 0) z

  strict : r.end < length old.sanitized → e.end < r.end
  strict h = f.strictly (omega arith)

  same_end : SameBehind r.end end' old (merged_of old e reading r)
  unfolding merged_book
  same_end = record {
    size = let a = length_sum in omega arith;
    inside = λ h. let a = strict h in omega arith;
    inside' = λ h. let a = strict h in omega arith;
    last = λ h. let a = strict h in text_behind (r.end - 1) (end' - 1) (omega arith) (omega arith);
    text = λ k. text_behind (r.end + k) (end' + k) (omega arith) (omega arith);
    nodes = nodes_behind_lem;
    pairs = pairs_behind_lem;
  }

  pub same_behind : SameBehind r.end (behind_edit e r.end) old (merged_of old e reading r)
  same_behind = rw end_moved same_end
