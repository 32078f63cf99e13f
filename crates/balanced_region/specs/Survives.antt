-- Wish 1: an end cut keeps its blank line in the new text. Both newlines before a cut lie behind the edit, unless the cut lies one byte
-- behind the edit's end: only there can the blank line be lost. So the search for the end begins at the edit's end or one byte on,
-- and asks the old text alone.
use Rattle.std.specs.Prelude.{◌≡◌, Bool, ◌&&◌, ◌||◌, List, leb, ltb, eqb}
use Rattle.std.proofs.Math.Path.{refl}
use Rattle.std.proofs.Common.{sym, ◌∙◌}
use Prim.Native.Nat.{ℕ, zero, suc, ◌+◌, ◌-◌, ◌≤◌, ◌<◌}
use native.Mathlib.Omega.{arith}
use Rattle.std.proofs.Math.Bool.{true, false, cond, and-false, and-true}
use Rattle.std.proofs.Math.ListN.{length}
use borrow.Author.Tests.{ltb-true, ltb-false, eqb-true, eqb-false, le-leb, lt-leb, ne_eqb}
use Rattle.model.specs.Offset.{Span}
use Rattle.model.specs.Types.{SourceNode, PairLink, LexOutput}
use Rattle.model.specs.Region.{Edit, edited, behind_edit, newline_at, blank_line_before, nodes_allow_cut, pairs_allow_cut, safe_cut, end_cut, region_end, balanced_region}
use Rattle.facts.specs.Truth.{by_bool}
use Rattle.laws.specs.Splice.{byte_front, byte_inner, byte_rest}
use Rattle.cuts.specs.Safe.{safe_book}
use Rattle.balanced_region.specs.Ends.{region_end_in, balanced_in, start_book}

-- is the last byte before the edit's end a newline in the new text? It is the replacement's, or else the last one before the edit
unfoldable pub newline_kept : List ℕ → ℕ → List ℕ → Bool
newline_kept text start replacement =
    cond (ltb 0 (length replacement)) (newline_at replacement (length replacement - 1)) (ltb 0 start && newline_at text (start - 1))

-- where the search for the end begins
unfoldable pub search_from : List ℕ → ℕ → ℕ → List ℕ → ℕ
search_from text start end replacement = cond (eqb end (length text) || newline_kept text start replacement) end (end + 1)

pub search_bounds : (text : List ℕ) (start end : ℕ) (replacement : List ℕ) → end ≤ length text → (end ≤ search_from text start end replacement) × (search_from text start end replacement ≤ length text)
unfolding search_from
search_bounds text start end replacement h =
    by_bool (eqb end (length text)) (λ q. rw q (omega arith, h)) (λ q.
    let n = eqb-false end (length text) q in
    by_bool (newline_kept text start replacement) (λ k. rw (q, k) (omega arith, h)) (λ k. rw (q, k) (omega arith, omega arith)))

module _ (text : List ℕ) (e : Edit) (rising : e.start ≤ e.end) (inside : e.end ≤ length text) where
  -- the blank line before the cut one byte behind the edit's end
  kept_byte : leb 2 (e.start + length e.replacement + 1) && newline_at (edited text e) (e.start + length e.replacement + 1 - 2) ≡ newline_kept text e.start e.replacement
  unfolding edited newline_kept
  kept_byte =
      let n = length e.replacement in
      by_bool (ltb 0 n)
      (λ q.
      let g = ltb-true 0 n q in
      let p : e.start + n + 1 - 2 ≡ e.start + (n - 1) = omega arith in
      rw (q, le-leb 2 (e.start + n + 1) (omega arith), p, byte_inner e.start e.end e.replacement text rising inside (n - 1) (omega arith)) refl)
      (λ q.
      let g = ltb-false 0 n q in
      by_bool (ltb 0 e.start)
      (λ s.
      let k = ltb-true 0 e.start s in
      let p : e.start + n + 1 - 2 ≡ e.start - 1 = omega arith in
      rw (q, s, le-leb 2 (e.start + n + 1) (omega arith), p, byte_front e.start e.end e.replacement text rising inside (e.start - 1) (omega arith)) refl)
      (λ s. let k = ltb-false 0 e.start s in rw (q, s, lt-leb 2 (e.start + n + 1) (omega arith)) refl))

  blank_first : blank_line_before (edited text e) (behind_edit e (e.end + 1)) ≡ newline_kept text e.start e.replacement && newline_at text e.end
  unfolding blank_line_before behind_edit edited
  blank_first =
      let n = length e.replacement in
      let p : e.end + 1 + n - (e.end - e.start) ≡ e.start + n + 1 = omega arith in
      let r : e.start + n + 1 - 1 ≡ e.start + n + 0 = omega arith in
      let s : e.end + 0 ≡ e.end = omega arith in
      rw (p, kept_byte, r, byte_rest e.start e.end e.replacement text rising inside 0, s) refl

  -- before any later cut
  blank_beyond : (i : ℕ) → blank_line_before (edited text e) (behind_edit e (e.end + i + 2)) ≡ blank_line_before text (e.end + i + 2)
  unfolding blank_line_before behind_edit edited
  blank_beyond i =
      let n = length e.replacement in
      let p : e.end + i + 2 + n - (e.end - e.start) ≡ e.start + n + i + 2 = omega arith in
      let p₂ : e.start + n + i + 2 - 2 ≡ e.start + n + i = omega arith in
      let p₁ : e.start + n + i + 2 - 1 ≡ e.start + n + (i + 1) = omega arith in
      let q₂ : e.end + i + 2 - 2 ≡ e.end + i = omega arith in
      let q₁ : e.end + i + 2 - 1 ≡ e.end + (i + 1) = omega arith in
      rw (
        p,
        p₂,
        p₁,
        q₂,
        q₁,
        le-leb 2 (e.start + n + i + 2) (omega arith),
        le-leb 2 (e.end + i + 2) (omega arith),
        byte_rest e.start e.end e.replacement text rising inside i,
        byte_rest e.start e.end e.replacement text rising inside (i + 1),
      ) refl

  blank_later : (o : ℕ) → e.end < o → blank_line_before (edited text e) (behind_edit e (o + 1)) ≡ blank_line_before text (o + 1)
  blank_later o h = let q : o + 1 ≡ e.end + (o - (e.end + 1)) + 2 = omega arith in rw q (blank_beyond (o - (e.end + 1)))

and_again : (x y z : Bool) → (x && y && z) && x ≡ x && y && z
and_again true y z = and-true (y && z)
and_again false y z = refl

module _ (b : LexOutput) (e : Edit) (rising : e.start ≤ e.end) (inside : e.end ≤ length b.sanitized) where
  abbrev size : ℕ
  size = length b.sanitized

  later_cut : (o : ℕ) → e.end < o → end_cut b e (o + 1) ≡ safe_cut b (o + 1)
  unfolding end_cut safe_cut
  later_cut o h =
      by_bool (eqb (o + 1) size) (λ q. rw (ne_eqb (o + 1) 0 (omega arith), q) refl)
      (λ q. rw (ne_eqb (o + 1) 0 (omega arith), q, blank_later b.sanitized e rising inside o h)
      (and_again (blank_line_before b.sanitized (o + 1)) (nodes_allow_cut b.source_nodes (o + 1)) (pairs_allow_cut b.pairs (o + 1))))

  later_search : (n o : ℕ) → e.end < o → region_end b e n o ≡ region_end_in b.sanitized b.source_nodes b.pairs n o
  unfolding region_end region_end_in
  later_search zero o h = refl
  later_search (suc n) o h = rw (later_cut o h, safe_book b (o + 1), later_search n (o + 1) (omega arith)) refl

  -- the first cut of the search, where its blank line is kept
  first_kept : newline_kept b.sanitized e.start e.replacement ≡ true → newline_at b.sanitized e.end && end_cut b e (e.end + 1) ≡ newline_at b.sanitized e.end && safe_cut b (e.end + 1)
  unfolding end_cut
  first_kept k =
      by_bool (newline_at b.sanitized e.end)
      (λ t. rw (t, blank_first b.sanitized e rising inside, k, t) (or_true (safe_cut b (e.end + 1)) (eqb (e.end + 1) size)))
      (λ t. rw t refl)
    where
      or_true : (x y : Bool) → x && (y || true) ≡ x
      or_true true true = refl
      or_true true false = refl
      or_true false y = refl

  -- where it is lost
  first_lost : newline_kept b.sanitized e.start e.replacement ≡ false → e.end + 1 < size → newline_at b.sanitized e.end && end_cut b e (e.end + 1) ≡ false
  unfolding end_cut
  first_lost k h = rw (blank_first b.sanitized e rising inside, k, ne_eqb (e.end + 1) size (omega arith), and-false, and-false) refl

  none_left : (n m o o' : ℕ) → n ≡ 0 → m ≡ 0 → region_end_in b.sanitized b.source_nodes b.pairs n o ≡ region_end b e m o'
  unfolding region_end region_end_in
  none_left n m o o' p q = rw (p, q) refl

  -- k bytes are left behind the edit's end and one more
  kept : newline_kept b.sanitized e.start e.replacement ≡ true → (k : ℕ) → region_end_in b.sanitized b.source_nodes b.pairs (suc k) e.end ≡ region_end b e (suc k) e.end
  unfolding region_end region_end_in
  kept t k = rw (safe_book b (e.end + 1), first_kept t, later_search k (e.end + 1) (omega arith)) refl

  lost : newline_kept b.sanitized e.start e.replacement ≡ false → (k : ℕ) → k + (e.end + 1) ≡ size → region_end_in b.sanitized b.source_nodes b.pairs k (e.end + 1) ≡ region_end b e (suc k) e.end
  unfolding region_end region_end_in
  lost t zero l = last (newline_at b.sanitized e.end && end_cut b e (e.end + 1))
    where
      last : (x : Bool) → size ≡ cond x (e.end + 1) size
      last true = omega arith
      last false = refl
  lost t (suc k) l = rw (first_lost t (omega arith)) (sym (later_search (suc k) (e.end + 1) (omega arith)))

  pub end_searched : (s : ℕ) → s ≡ search_from b.sanitized e.start e.end e.replacement
      → region_end_in b.sanitized b.source_nodes b.pairs (size - s) s ≡ region_end b e (size - e.end) e.end
  unfolding search_from
  end_searched s q =
      by_bool (eqb e.end size)
      (λ z.
      let l = eqb-true e.end size z in
      let y : s ≡ e.end = rw z at q in
      none_left (size - s) (size - e.end) s e.end (omega arith) (omega arith))
      (λ z.
      let n = eqb-false e.end size z in
      let g : size - e.end ≡ suc (size - (e.end + 1)) = omega arith in
      by_bool (newline_kept b.sanitized e.start e.replacement)
      (λ t. let y : s ≡ e.end = rw (z, t) at q in rw (y, g) (kept t (size - (e.end + 1))))
      (λ t. let y : s ≡ e.end + 1 = rw (z, t) at q in rw (y, g) (lost t (size - (e.end + 1)) (omega arith))))

-- ---- of a book

pub balanced_book : (b : LexOutput) (e : Edit) → e.start ≤ e.end → e.end ≤ length b.sanitized
    → balanced_in b.sanitized b.source_nodes b.pairs e.start (search_from b.sanitized e.start e.end e.replacement) ≡ balanced_region b e
unfolding balanced_in balanced_region
balanced_book b e rising inside = rw (start_book b e.start, end_searched b e rising inside _ refl) refl

-- the region of a book whose three lists the code has
pub region_of_book : (b : LexOutput) (e : Edit) → e.start ≤ e.end → e.end ≤ length b.sanitized → {text : List ℕ} {ns : List SourceNode} {ps : List PairLink} {s : Span}
    → text ≡ b.sanitized → ns ≡ b.source_nodes → ps ≡ b.pairs → s ≡ balanced_in text ns ps e.start (search_from text e.start e.end e.replacement) → s ≡ balanced_region b e
region_of_book b e rising inside {text} {ns} {ps} {s} q₁ q₂ q₃ h = h ∙ rw (q₁, q₂, q₃) (balanced_book b e rising inside)
