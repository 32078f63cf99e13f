-- Same passage: the earlier edit's region is found again after the later correction, and the later edit's region is the old one
-- moved after the earlier correction. Number 12 of the second merge fixes a region's length. Section 7.
use Rattle.std.specs.Prelude.{◌≡◌, ℕ, zero, suc, ◌+◌, ◌-◌, ◌≤◌, ◌<◌, Bool, true, false, eqb}
use Rattle.std.proofs.Math.Path.{refl}
use Rattle.std.proofs.Common.{sym, ◌∙◌, eqb-true}
use native.Mathlib.Omega.{arith}
use Rattle.std.proofs.Math.ListN.{length}
use Rattle.std.proofs.lemmas.Bool.{eqb-false}
use Rattle.model.specs.Offset.{Span}
use Rattle.model.specs.Types.{LexOutput, RegionOutput}
use Rattle.model.specs.Region.{Edit, behind_edit, newline_at, safe_cut, region_start, region_end, balanced_region}
use Rattle.model.specs.Demand3.{moved_behind, region_behind}
use Rattle.commute.specs.Cut.{SameBefore, SameBehind, SameEdit, Starts, starts, Ends, ends, start_before, end_behind, length_safe}

-- number 12, as lengths: the reading is as long as the region, moved by the change in length
abbrev pub Twelve : Edit → RegionOutput → Span → Type 0
Twelve e reading r = r.start + length reading.sanitized + e.end ≡ r.end + (length e.replacement + e.start)

pub record Bounds (b : LexOutput) (e : Edit) (r : Span) : Type 0 where
  pub starts : Starts b e.start r.start
  pub ends : Ends b e.end r.end

pub bounds : (b : LexOutput) (e : Edit) → e.end ≤ length b.sanitized → Bounds b e (balanced_region b e)
unfolding balanced_region
bounds b e h = record { starts = starts b e.start; ends = ends b e (length b.sanitized - e.end) e.end (omega arith) }

-- ---- the earlier edit, merged second

-- a region's start at the end of a text that ends in a newline
start_at_end : (b : LexOutput) (o : ℕ) → suc o ≡ length b.sanitized → newline_at b.sanitized o ≡ true → region_start b (suc o) ≡ suc o
unfolding region_start
start_at_end b o q e =
    let s : safe_cut b (suc o) ≡ true = rw q (length_safe b) in
    rw (e, s)

start_no_newline : (b : LexOutput) (o : ℕ) → newline_at b.sanitized o ≡ false → region_start b (suc o) ≡ region_start b o
unfolding region_start
start_no_newline b o e = rw e

start_zero : (b b' : LexOutput) → region_start b' 0 ≡ region_start b 0
unfolding region_start
start_zero b b' = refl

module _ {b b' : LexOutput} {l : ℕ} (same : SameBefore l b b') (e : Edit) (reading : RegionOutput)
    (rising : e.start ≤ e.end) (inside : e.end ≤ length b.sanitized) (inside' : e.end ≤ length b'.sanitized) (far : l ≤ length b'.sanitized)
    (apart : region_end b e (length b.sanitized - e.end) e.end ≤ l)
    (grown : e.end ≡ length b.sanitized → length b.sanitized < length b'.sanitized)
    (twelve : Twelve e reading (balanced_region b e)) (twelve' : Twelve e reading (balanced_region b' e)) where
  start_again : region_start b' e.start ≡ region_start b e.start
  unfolding balanced_region
  start_again = go (eqb e.start (length b.sanitized)) refl
    where
      u : Bounds b e (balanced_region b e)
      u = bounds b e inside

      u' : Bounds b' e (balanced_region b' e)
      u' = bounds b' e inside'

      -- the edit starts at the end of the text: only there may the length make a difference
      newline : (o : ℕ) → e.start ≡ suc o → e.start ≡ length b.sanitized → (t : Bool) → newline_at b.sanitized o ≡ t → region_start b' (suc o) ≡ region_start b (suc o)
      newline o p q true x =
          let s : region_start b e.start ≡ e.start = rw p (start_at_end b o (omega arith) x) in
          let a = u.ends.behind in
          let c = u.ends.inside in
          let a' = u'.starts.before in
          let s' = u'.ends.strictly in
          let g = grown (omega arith) in
          let m : e.end < (balanced_region b' e).end = s' (omega arith) in
          absurd (omega arith)
      newline o p q false x =
          let a = u.ends.behind in
          let y : newline_at b'.sanitized o ≡ false = rw (same.text o (omega arith)) x in
          start_no_newline b' o y ∙ start_before same o (omega arith) (omega arith) (omega arith) ∙ sym (start_no_newline b o x)

      at_end : (o : ℕ) → e.start ≡ o → e.start ≡ length b.sanitized → region_start b' o ≡ region_start b o
      at_end zero p q = start_zero b b'
      at_end (suc o) p q = newline o p q (newline_at b.sanitized o) refl

      longer : (t : Bool) → eqb e.end (length b.sanitized) ≡ t → e.start < length b.sanitized → e.start < length b'.sanitized
      longer true x n = let g = grown (eqb-true e.end (length b.sanitized) x) in omega arith
      longer false x n =
          let m = eqb-false e.end (length b.sanitized) x in
          let s = u.ends.strictly (omega arith) in
          omega arith

      go : (t : Bool) → eqb e.start (length b.sanitized) ≡ t → region_start b' e.start ≡ region_start b e.start
      go true x = at_end e.start refl (eqb-true e.start (length b.sanitized) x)
      go false x =
          let n = eqb-false e.start (length b.sanitized) x in
          let a = u.ends.behind in
          let m : e.start < length b.sanitized = omega arith in
          start_before same e.start (omega arith) m (longer (eqb e.end (length b.sanitized)) refl m)

  pub region_again : balanced_region b' e ≡ balanced_region b e
  unfolding balanced_region
  region_again =
      let s = start_again in
      let m : region_end b' e (length b'.sanitized - e.end) e.end ≡ region_end b e (length b.sanitized - e.end) e.end = omega arith in
      λ i. record { start = s i; end = m i }

-- ---- the later edit, merged second

-- an offset at or behind an edit's end, moved: with nothing taken away
pub behind_is : (e : Edit) (o : ℕ) → e.start ≤ e.end → e.end ≤ o → behind_edit e o + e.end ≡ o + (length e.replacement + e.start)
unfolding behind_edit
behind_is e o h k = omega arith

module _ {b b' : LexOutput} (first e : Edit) (r : Span) (same : SameBehind r.end (behind_edit first r.end) b b') (reading : RegionOutput)
    (first-rising : first.start ≤ first.end) (first_inside : first.end ≤ r.end)
    (rising : e.start ≤ e.end) (inside : e.end ≤ length b.sanitized)
    (apart : r.end ≤ region_start b e.start)
    (twelve : Twelve e reading (balanced_region b e)) (twelve' : Twelve (moved_behind first e) reading (balanced_region b' (moved_behind first e))) where
  moves : (o : ℕ) → first.end ≤ o → behind_edit first o + first.end ≡ o + (length first.replacement + first.start)
  moves o h = behind_is first o first-rising h

  -- the edit lies behind the first one's cut, and so does the moved one
  moved_edit : SameEdit r.end (behind_edit first r.end) e (moved_behind first e)
  unfolding moved_behind
  moved_edit =
      let a = (starts b e.start).before in
      let m₁ = moves r.end first_inside in
      let m₂ = moves e.end (omega arith) in
      let m₃ = moves e.start (omega arith) in
      record { behind = omega arith; rising = rising; start = omega arith; end = omega arith; replacement = refl }

  -- k bytes from the cut to the edit's end, n from there to the text's
  end_moved : (k n n' : ℕ) → r.end + k ≡ e.end → e.end + n ≡ length b.sanitized → n' ≡ n
      → (region_end b' (moved_behind first e) n' (behind_edit first e.end) ≡ behind_edit first (region_end b e n e.end)) × (e.end ≤ region_end b e n e.end)
  end_moved k n n' p q t =
      let x = end_behind same moved_edit inside n k (omega arith) (omega arith) in
      let u = (ends b e n e.end q).behind in
      let m₁ = moves r.end first_inside in
      let m₂ = moves e.end (omega arith) in
      let m₃ = moves (region_end b e n e.end) (omega arith) in
      let e₂ : behind_edit first r.end + k ≡ behind_edit first e.end = omega arith in
      let y : region_end b' (moved_behind first e) n (behind_edit first e.end) + r.end ≡ region_end b e n e.end + behind_edit first r.end = rw (p, e₂) at x in
      (rw t (omega arith), u)

  pub region_moved : balanced_region b' (moved_behind first e) ≡ region_behind first (balanced_region b e)
  unfolding balanced_region region_behind moved_behind
  region_moved =
      let n = length b.sanitized - e.end in
      let a = (starts b e.start).before in
      let m₁ = moves r.end first_inside in
      let m₂ = moves e.end (omega arith) in
      let m₃ = moves e.start (omega arith) in
      let m = end_moved (e.end - r.end) n (length b'.sanitized - behind_edit first e.end) (omega arith) (omega arith) (omega arith) in
      let m₄ = moves (region_start b e.start) (omega arith) in
      let m₅ = moves (region_end b e n e.end) (omega (arith, m.1)) in
      let t : region_start b' (behind_edit first e.start) ≡ behind_edit first (region_start b e.start) = omega (arith, m.0) in
      λ i. record { start = t i; end = m.0 i }
