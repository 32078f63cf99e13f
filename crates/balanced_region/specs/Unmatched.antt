-- Both depths behind a number of nodes. A fall below 0 counts as 0, so depths can be counted backwards only as far as the last
-- unmatched close, a node that closes at depth 0: behind it every close has its open.
use Prim.Native.Nat.{ℕ, zero, suc, ◌+◌, ◌-◌, ◌*◌, ◌≤◌, ◌<◌}
use native.Mathlib.Omega.{arith}
use Rattle.std.specs.Prelude.{◌≡◌, Bool, true, false, cond, List, [], ◌∷◌, ltb, eqb}
use Rattle.std.proofs.Math.Path.{refl, sym, ap}
use Rattle.std.proofs.Common.{◌∙◌}
use borrow.Author.Tests.{lt-ltb, le-ltb, ltb-false, eqb-true, eqb-false}
use Rattle.model.specs.Types.{SourceNode}
use Rattle.model.specs.Tape.{record_at, records_at, node_codec}
use Rattle.model.specs.Region.{is_block_open, is_block_close, is_warichu_open, is_warichu_close, depth_behind}
use Rattle.facts.specs.Truth.{neither, by_bool}
use Rattle.records.specs.Runs.{run_cons, run_none}
use Rattle.places.specs.declared.Run.{Run}
use Rattle.balanced_region.specs.declared.Passed.{Passed}
use Rattle.cuts.specs.Depths.{closes_unopened, no_block_both, no_warichu_both}
use Rattle.cuts.specs.Gaps.{closes_nothing, node_at, nodes_of, nodes_from, NodesIn, Walked, walked_none, walked_more, walked_span, depth_small}

-- a node that closes at depth 0
abbrev pub is_unmatched : Passed → SourceNode → Bool
is_unmatched d n = closes_unopened d.depths.blocks d.depths.warichu n

-- how many nodes there are up to and with the last unmatched close
unfoldable pub last_unmatched : Passed → SourceNode → ℕ
last_unmatched d n = cond (is_unmatched d n) (d.count + 1) d.unmatched

unfoldable pub no_depths : Passed
no_depths = record { count = 0; depths = record { blocks = 0; warichu = 0 }; unmatched = 0 }

unfoldable pub depths_past : Passed → SourceNode → Passed
depths_past d n = record {
  count = d.count + 1;
  depths = record {
    blocks = depth_behind is_block_open is_block_close d.depths.blocks n;
    warichu = depth_behind is_warichu_open is_warichu_close d.depths.warichu n;
  };
  unmatched = last_unmatched d n;
}

-- behind those at the front that start before `bound`
unfoldable pub depths_before : ℕ → Passed → List SourceNode → Passed
depths_before bound d [] = d
depths_before bound d (n ∷ ns) = let more = depths_before bound (depths_past d n) ns in cond (ltb n.source_span.start bound) more d

-- behind the first i nodes of those that stand from `at` on
unfoldable pub depths_at : List ℕ → ℕ → ℕ → Passed
depths_at t at zero = no_depths
depths_at t at (suc i) = depths_past (depths_at t at i) (record_at node_codec t (at + 49 * i))

-- where the gap behind i nodes begins; that before the first node at 1, since 0 needs no search
unfoldable pub gap_from : List ℕ → Run → ℕ → ℕ
gap_from t r zero = 1
gap_from t r (suc i) = (node_at t r i).source_span.end

-- ---- the code's answers

module _ (d : Passed) (n : SourceNode) (x : Bool) (q : x ≡ is_unmatched d n) where
  pub unmatched_here : x ≡ true → d.count + 1 ≡ last_unmatched d n
  unfolding last_unmatched
  unmatched_here e = rw (← q, e) refl

  pub unmatched_before : x ≡ false → d.unmatched ≡ last_unmatched d n
  unfolding last_unmatched
  unmatched_before e = rw (← q, e) refl

-- ---- the walk of `depths_before`: what is left answers as the whole

pub record Passing (t : List ℕ) (r : Run) (bound : ℕ) (d : Passed) : Type 0 where
  pub within : d.count ≤ r.count
  pub blocks_small : d.depths.blocks ≤ d.count
  pub warichu_small : d.depths.warichu ≤ d.count
  pub same : depths_before bound d (nodes_from t r d.count) ≡ depths_before bound no_depths (nodes_of t r)

pub passing_none : (t : List ℕ) (r : Run) (bound : ℕ) → Passing t r bound (record { count = 0; depths = record { blocks = 0; warichu = 0 }; unmatched = 0 })
unfolding no_depths
passing_none t r bound =
    let e₁ : r.at + 49 * 0 ≡ r.at = omega arith in
    let e₂ : r.count - 0 ≡ r.count = omega arith in
    record { within = omega arith; blocks_small = omega arith; warichu_small = omega arith; same = rw (e₁, e₂) refl }

nodes_cons : (t : List ℕ) (at i k : ℕ)
    → records_at node_codec t (at + 49 * i) (suc k) ≡ (record_at node_codec t (at + 49 * i) ∷ records_at node_codec t (at + 49 * (i + 1)) k)
unfolding node_codec
nodes_cons t at i k = run_cons node_codec t k (at + 49 * i) (at + 49 * (i + 1)) (omega arith)

module _ {t : List ℕ} {r : Run} {bound : ℕ} {d : Passed} (w : Passing t r bound d) where
  pub passing_done : r.count ≤ d.count → d ≡ depths_before bound no_depths (nodes_of t r)
  unfolding depths_before
  passing_done h =
      let z : r.count - d.count ≡ 0 = omega arith in
      sym (ap (λ (k : ℕ). depths_before bound d (records_at node_codec t (r.at + 49 * d.count) k)) z
      ∙ ap (depths_before bound d) (run_none node_codec t (r.at + 49 * d.count)))
      ∙ w.same

  module _ (h : d.count < r.count) (start : ℕ) (q : start ≡ (node_at t r d.count).source_span.start) where
    cons_here : nodes_from t r d.count ≡ (node_at t r d.count ∷ nodes_from t r (d.count + 1))
    cons_here =
        let e : r.count - d.count ≡ suc (r.count - (d.count + 1)) = omega arith in
        ap (λ (k : ℕ). records_at node_codec t (r.at + 49 * d.count) k) e ∙ nodes_cons t r.at d.count (r.count - (d.count + 1))

    pub passing_stop : bound ≤ start → d ≡ depths_before bound no_depths (nodes_of t r)
    unfolding depths_before
    passing_stop b = sym (ap (depths_before bound d) cons_here ∙ rw (← q, le-ltb start bound b) refl) ∙ w.same

    pub passing_more : start < bound → (d' : Passed) → d' ≡ depths_past d (node_at t r d.count) → Passing t r bound d'
    unfolding depths_before depths_past
    passing_more b d' e =
        let a = depth_small is_block_open is_block_close d.depths.blocks (node_at t r d.count) in
        let g = depth_small is_warichu_open is_warichu_close d.depths.warichu (node_at t r d.count) in
        rw e (record {
          within = omega arith;
          blocks_small = omega (arith, a, w.blocks_small);
          warichu_small = omega (arith, g, w.warichu_small);
          same = sym (ap (depths_before bound d) cons_here ∙ rw (← q, lt-ltb start bound b) refl) ∙ w.same;
        })

pub past_count : (d : Passed) (n : SourceNode) (d' : Passed) → d' ≡ depths_past d n → d'.count ≡ d.count + 1
unfolding depths_past
past_count d n d' e = ap (λ (x : Passed). x.count) e

-- ---- by the number of nodes

module _ (t : List ℕ) (at : ℕ) where
  pub depths_next : (i : ℕ) → depths_at t at (i + 1) ≡ depths_past (depths_at t at i) (record_at node_codec t (at + 49 * i))
  unfolding depths_at
  depths_next i = let q : i + 1 ≡ suc i = omega arith in rw q refl

  depths_count : (i : ℕ) → (depths_at t at i).count ≡ i
  unfolding depths_at depths_past no_depths
  depths_count zero = refl
  depths_count (suc i) = omega (arith, depths_count i)

  pub unmatched_small : (i : ℕ) → (depths_at t at i).unmatched ≤ i
  unfolding depths_at depths_past no_depths last_unmatched
  unmatched_small zero = omega arith
  unmatched_small (suc i) =
      by_bool (is_unmatched (depths_at t at i) (record_at node_codec t (at + 49 * i)))
      (λ e. rw e (omega (arith, depths_count i)))
      (λ e. rw e (omega (arith, unmatched_small i)))

  -- behind the last unmatched close of the first n nodes
  matched : (n k : ℕ) → (depths_at t at n).unmatched ≤ k → k < n → is_unmatched (depths_at t at k) (record_at node_codec t (at + 49 * k)) ≡ false
  unfolding depths_at depths_past last_unmatched
  matched zero k h b = absurd (omega arith)
  matched (suc n) k h b =
      by_bool (is_unmatched (depths_at t at n) (record_at node_codec t (at + 49 * n)))
      (λ e. let l : (depths_at t at n).count + 1 ≤ k = rw e at h in absurd (omega (arith, depths_count n)))
      (λ e.
      let l : (depths_at t at n).unmatched ≤ k = rw e at h in
      by_bool (eqb k n)
      (λ f. let s = eqb-true k n f in rw s e)
      (λ f. matched n k l (omega (arith, eqb-false k n f))))

-- what the forward walk tells of the whole run: the first `d.count` nodes were passed, and the next starts at or behind `bound`
pub record Front (t : List ℕ) (r : Run) (bound : ℕ) (d : Passed) : Type 0 where
  pub within : d.count ≤ r.count
  pub is : d ≡ depths_at t r.at d.count
  pub stops : d.count < r.count → bound ≤ (node_at t r d.count).source_span.start

module _ (t : List ℕ) (r : Run) (bound limit : ℕ) (h : limit ≤ r.count) (g : limit < r.count → bound ≤ (node_at t r limit).source_span.start) where
  abbrev Reached : Passed → Type 0
  Reached d = Front t r bound d × (d.count ≤ limit)

  front_at : (i : ℕ) → i ≤ limit → (i < r.count → bound ≤ (node_at t r i).source_span.start) → Reached (depths_at t r.at i)
  front_at i b s =
      let e = depths_count t r.at i in
      (record { within = omega (arith, e); is = ap (depths_at t r.at) (sym e); stops = λ l. let x = s (omega (arith, e)) in rw e x }, omega (arith, e))

  front_from : (k i : ℕ) → i + k ≡ limit → Reached (depths_before bound (depths_at t r.at i) (records_at node_codec t (r.at + 49 * i) k))
  unfolding depths_before
  front_from zero i e =
      let q : i ≡ limit = omega arith in
      rw (run_none node_codec t (r.at + 49 * i)) (front_at i (omega arith) (rw (← q) at g))
  front_from (suc k) i e =
      let start = (node_at t r i).source_span.start in
      rw (nodes_cons t r.at i k) (by_bool (ltb start bound)
      (λ f. rw (f, ← depths_next t r.at i) (front_from k (i + 1) (omega arith)))
      (λ f. rw f (front_at i (omega arith) (λ b. ltb-false start bound f))))

  pub front_of : (d : Passed) → d ≡ depths_before bound no_depths (records_at node_codec t r.at limit) → Front t r bound d × (d.count ≤ limit)
  unfolding depths_at
  front_of d q =
      let e : r.at + 49 * 0 ≡ r.at = omega arith in
      let s : depths_before bound no_depths (records_at node_codec t (r.at + 49 * 0) limit) ≡ d
      = ap (λ (k : ℕ). depths_before bound no_depths (records_at node_codec t k limit)) e ∙ sym q in
      rw (← s) (front_from limit 0 (omega arith))

-- ---- counted backwards

back_over : (opens closes : SourceNode → Bool) (d : ℕ) (n : SourceNode) → (opens n ≡ true → closes n ≡ false) → closes_nothing (closes n) d ≡ false
    → depth_behind closes opens (depth_behind opens closes d n) n ≡ d
unfolding depth_behind closes_nothing
back_over opens closes d n x m =
    by_bool (opens n)
    (λ e. rw (e, x e) (omega arith))
    (λ e. by_bool (closes n)
    (λ f. let ne = eqb-false d 0 (rw f at m) in rw (e, f) (omega (arith, ne)))
    (λ f. rw (e, f) refl))

module _ (t : List ℕ) (at n : ℕ) (j : ℕ) (h : (depths_at t at n).unmatched ≤ j) (g : j < n) where
  abbrev node : SourceNode
  node = record_at node_codec t (at + 49 * j)

  closes_something : (closes_nothing (is_block_close node) (depths_at t at j).depths.blocks ≡ false) × (closes_nothing (is_warichu_close node) (depths_at t at j).depths.warichu ≡ false)
  unfolding closes_unopened
  closes_something = neither _ _ (matched t at n j h g)

  pub blocks_back : (b b' : ℕ) → b ≡ (depths_at t at (j + 1)).depths.blocks → b' ≡ depth_behind is_block_close is_block_open b node → b' ≡ (depths_at t at j).depths.blocks
  unfolding depths_past
  blocks_back b b' e f =
      f ∙ ap (λ (x : ℕ). depth_behind is_block_close is_block_open x node) (e ∙ ap (λ (x : Passed). x.depths.blocks) (depths_next t at j))
      ∙ back_over is_block_open is_block_close (depths_at t at j).depths.blocks node (no_block_both node) closes_something.0

  pub warichu_back : (b b' : ℕ) → b ≡ (depths_at t at (j + 1)).depths.warichu → b' ≡ depth_behind is_warichu_close is_warichu_open b node → b' ≡ (depths_at t at j).depths.warichu
  unfolding depths_past
  warichu_back b b' e f =
      f ∙ ap (λ (x : ℕ). depth_behind is_warichu_close is_warichu_open x node) (e ∙ ap (λ (x : Passed). x.depths.warichu) (depths_next t at j))
      ∙ back_over is_warichu_open is_warichu_close (depths_at t at j).depths.warichu node (no_warichu_both node) closes_something.1

-- ---- the gap behind i nodes

module _ (t : List ℕ) (r : Run) where
  pub gap_next : (i : ℕ) → gap_from t r (i + 1) ≡ (node_at t r i).source_span.end
  unfolding gap_from
  gap_next i = let q : i + 1 ≡ suc i = omega arith in rw q refl

  -- the code's answers
  pub gap_first_node : (i : ℕ) → i ≡ 0 → 1 ≡ gap_from t r i
  unfolding gap_from
  gap_first_node i e = rw e refl

  pub gap_behind : (i : ℕ) → (i ≡ 0 → ⊥) → (end : ℕ) → end ≡ (node_at t r (i - 1)).source_span.end → end ≡ gap_from t r i
  gap_behind i ne end q = let e : i - 1 + 1 ≡ i = omega (arith, ne) in q ∙ sym (gap_next (i - 1)) ∙ ap (gap_from t r) e

pub record GapAt (size : ℕ) (t : List ℕ) (r : Run) (i : ℕ) : Type 0 where
  pub from : ℕ
  pub low : from ≤ gap_from t r i
  pub high : gap_from t r i ≤ from + 1
  pub positive : 1 ≤ gap_from t r i
  pub walked : Walked size t r i from (depths_at t r.at i).depths.blocks (depths_at t r.at i).depths.warichu

module _ (size : ℕ) (t : List ℕ) (r : Run) (w : NodesIn size (nodes_of t r)) where
  gap_more : (i : ℕ) → i < r.count → GapAt size t r i → GapAt size t r (i + 1)
  unfolding depths_past
  gap_more i h g =
      let start = (node_at t r i).source_span.start in
      let end = (node_at t r i).source_span.end in
      let s = walked_span g.walked h start end refl refl in
      record {
        from = end;
        low = omega (arith, gap_next t r i);
        high = omega (arith, gap_next t r i);
        positive = omega (arith, gap_next t r i, s);
        walked =
            walked_more g.walked h start end refl refl (depths_at t r.at (i + 1)).depths.blocks (depths_at t r.at (i + 1)).depths.warichu
            (ap (λ (x : Passed). x.depths.blocks) (depths_next t r.at i)) (ap (λ (x : Passed). x.depths.warichu) (depths_next t r.at i));
      }

  pub gap_at : (i : ℕ) → i ≤ r.count → GapAt size t r i
  unfolding gap_from depths_at no_depths
  gap_at zero h = record { from = 0; low = omega arith; high = omega arith; positive = omega arith; walked = walked_none size t r w }
  gap_at (suc i) h = let q : suc i ≡ i + 1 = omega arith in rw q (gap_more i (omega arith) (gap_at i (omega arith)))

  -- gaps are in order
  pub gap_rises : (k j i : ℕ) → j + k ≡ i → i ≤ r.count → gap_from t r j ≤ gap_from t r i
  gap_rises zero j i e h = let q : i ≡ j = omega arith in rw q (omega arith)
  gap_rises (suc k) j i e h =
      let g = gap_at j (omega arith) in
      let s = walked_span g.walked (omega arith) (node_at t r j).source_span.start (node_at t r j).source_span.end refl refl in
      omega (arith, s, g.high, gap_next t r j, gap_rises k (j + 1) i (omega arith) h)
