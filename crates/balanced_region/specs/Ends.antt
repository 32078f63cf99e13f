-- Section 6, the two ends of a region over the three lists of a book that they depend on: text, nodes and pairs.
use Prim.Native.Nat.{ℕ, zero, suc, ◌+◌, ◌-◌, ◌≤◌}
use native.Mathlib.Omega.{arith}
use Rattle.std.specs.Prelude.{◌≡◌, cond, ◌&&◌, List, length}
use Rattle.std.proofs.Math.Path.{refl}
use Rattle.model.specs.Offset.{Span}
use Rattle.model.specs.Types.{SourceNode, PairLink, LexOutput}
use Rattle.model.specs.Region.{newline_at, region_start}
use Rattle.facts.specs.Truth.{by_bool}
use Rattle.cuts.specs.Safe.{safe_cut_in, safe_book}

-- Section 6. Start: the last safe offset after a newline, at or before an offset, else 0.
unfoldable pub region_start_in : List ℕ → List SourceNode → List PairLink → ℕ → ℕ
region_start_in text ns ps zero = 0
region_start_in text ns ps (suc o) =
    let earlier = region_start_in text ns ps o in
    cond (newline_at text o && safe_cut_in text ns ps (suc o)) (suc o) earlier

-- Section 6. End: the first safe offset after a newline at or behind an offset, else the length. n bytes are left to look at.
unfoldable pub region_end_in : List ℕ → List SourceNode → List PairLink → ℕ → ℕ → ℕ
region_end_in text ns ps zero o = length text
region_end_in text ns ps (suc n) o =
    let later = region_end_in text ns ps n (o + 1) in
    cond (newline_at text o && safe_cut_in text ns ps (o + 1)) (o + 1) later

-- Section 6. Both ends, by the offsets from which they are looked for.
unfoldable pub balanced_in : List ℕ → List SourceNode → List PairLink → ℕ → ℕ → Span
balanced_in text ns ps start from = record { start = region_start_in text ns ps start; end = region_end_in text ns ps (length text - from) from }

module _ (text : List ℕ) (ns : List SourceNode) (ps : List PairLink) where
  -- ---- the region holds the edit and lies inside the text

  pub start_bound : (o : ℕ) → region_start_in text ns ps o ≤ o
  unfolding region_start_in
  start_bound zero = omega arith
  start_bound (suc o) =
      by_bool (newline_at text o && safe_cut_in text ns ps (suc o)) (λ e. rw e (omega arith)) (λ e. rw e (omega (arith, start_bound o)))

  pub end_bound : (n o : ℕ) → o + n ≡ length text → (o ≤ region_end_in text ns ps n o) × (region_end_in text ns ps n o ≤ length text)
  unfolding region_end_in
  end_bound zero o h = (omega arith, omega arith)
  end_bound (suc n) o h =
      let later = end_bound n (o + 1) (omega arith) in
      by_bool (newline_at text o && safe_cut_in text ns ps (o + 1)) (λ e. rw e (omega arith, omega arith)) (λ e. rw e (omega (arith, later), later.1))

  pub balanced_bounds : (start from : ℕ) → from ≤ length text
      → ((balanced_in text ns ps start from).start ≤ start) × (from ≤ (balanced_in text ns ps start from).end) × ((balanced_in text ns ps start from).end ≤ length text)
  unfolding balanced_in
  balanced_bounds start from h = let e = end_bound (length text - from) from (omega arith) in (start_bound start, e.0, e.1)

-- ---- of a book

module _ (b : LexOutput) where
  pub start_book : (o : ℕ) → region_start_in b.sanitized b.source_nodes b.pairs o ≡ region_start b o
  unfolding region_start_in region_start
  start_book zero = refl
  start_book (suc o) = rw (safe_book b (suc o), start_book o) refl
