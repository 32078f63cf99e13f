-- The loops of the crate, turn by turn: the walks over the nodes, and the search for the start.
use Rattle.std.specs.Prelude.{ℕ, ◌+◌, ◌-◌, ◌≤◌, ◌<◌, max, min, ◌≡◌, refl, Bool, false, List, length, ltb}
use Rattle.std.proofs.Common.{arith, sym, ap, ◌∙◌, ltb-true, ltb-false}
use Rattle.std.proofs.Math.Logic.{inl}
use Rattle.model.specs.Region.{is_block_open, is_block_close, is_warichu_open, is_warichu_close, depth_behind, nodes_allow_cut}
use Rattle.facts.specs.Truth.{by_bool}
use Rattle.places.specs.declared.Run.{Run}
use Rattle.cuts.specs.Safe.{cut_allowed}
use Rattle.balanced_region.specs.Ends.{region_end_in, region_start_in}
use Rattle.cuts.specs.Offsets.{Refused, refused_none, Latest, latest_none}
use Rattle.cuts.specs.Pairs.{pairs_of}
use Rattle.cuts.specs.Gaps.{Walked, nodes_of, walked_none, in_order_nodes, depths_zero, walked_rest, node_at, walked_gap}
use Rattle.cuts.specs.Gaps.{NodesApart, apart_in_order, walked_more, NodesIn, walked_span, walked_refused}
use Rattle.balanced_region.specs.EndSearch.{gap_first, end_last, gap_searched, Searched, end_found, refused_on, allowed_not}
use Rattle.balanced_region.specs.Unmatched.{depths_at, depths_before, no_depths, gap_from, Front, front_of, unmatched_small, blocks_back, warichu_back}
use Rattle.balanced_region.specs.Unmatched.{GapAt, gap_at, gap_next, gap_rises}
use Rattle.balanced_region.specs.StartSearch.{gap_last, last_cut, Down, gap_down, cut_found, cut_none, cut_over, ends_behind_newline, start_is, start_found, start_more}
use Rattle.balanced_region.specs.StartSearch.{latest_gap, latest_node, latest_cut, cut_latest}
use Rattle.balanced_region.specs.declared.Passed.{Passed}

-- ---- `region_end`: no offset behind o and before `from` is a cut

pub record EndWalk (text t : List ℕ) (r p : Run) (o i from blocks warichu : ℕ) : Type 0 where
  pub walked : Walked (length text) t r i from blocks warichu
  pub none : Refused (cut_allowed text (nodes_of t r) (pairs_of t p)) (o + 1) from

pub end_walk_none : (text t : List ℕ) (r p : Run) (o : ℕ) → NodesIn (length text) (nodes_of t r) → EndWalk text t r p o 0 0 0 0
end_walk_none text t r p o h = record { walked = walked_none (length text) t r h; none = refused_none (o + 1) 0 (omega arith) }

module _ {text t : List ℕ} {r p : Run} {o i from blocks warichu : ℕ} (w : EndWalk text t r p o i from blocks warichu) where
  pub end_walk_done : r.count ≤ i → o ≤ length text → (c : ℕ) → c ≡ gap_first text (pairs_of t p) blocks warichu (max from (o + 1)) (length text)
      → c ≡ region_end_in text (nodes_of t r) (pairs_of t p) (length text - o) o
  end_walk_done h b c q =
      end_last text (nodes_of t r) (pairs_of t p) o from (length text) c b w.none
      (gap_searched text (nodes_of t r) (pairs_of t p) blocks warichu (max from (o + 1)) (length text) (λ k x y. walked_rest w.walked h k (omega arith)) c q) refl

  module _ (h : i < r.count) (start : ℕ) (q : start ≡ (node_at t r i).source_span.start) where
    pub end_walk_inside : start + 1 ≤ length text
    end_walk_inside = let s = walked_span w.walked h start (node_at t r i).source_span.end q refl in omega (arith, s)

    module _ (c : ℕ) (g : c ≡ gap_first text (pairs_of t p) blocks warichu (max from (o + 1)) (start + 1)) where
      searched : Searched (cut_allowed text (nodes_of t r) (pairs_of t p)) (max from (o + 1)) (start + 1) c
      searched =
          gap_searched text (nodes_of t r) (pairs_of t p) blocks warichu (max from (o + 1)) (start + 1)
          (λ k x y. walked_gap w.walked h start (node_at t r i).source_span.end q refl k (omega arith) (omega arith)) c g

      pub end_walk_found : o ≤ length text → c ≤ start → c ≡ region_end_in text (nodes_of t r) (pairs_of t p) (length text - o) o
      end_walk_found b l = end_found text (nodes_of t r) (pairs_of t p) o from (start + 1) c b w.none searched (omega arith) end_walk_inside

      pub end_walk_more : start < c → (end : ℕ) → end ≡ (node_at t r i).source_span.end
          → (blocks' warichu' : ℕ) → blocks' ≡ depth_behind is_block_open is_block_close blocks (node_at t r i)
          → warichu' ≡ depth_behind is_warichu_open is_warichu_close warichu (node_at t r i) → EndWalk text t r p o (i + 1) end blocks' warichu'
      end_walk_more l end q₁ blocks' warichu' e f = record {
        walked = walked_more w.walked h start end q q₁ blocks' warichu' e f;
        none = refused_on text (nodes_of t r) (pairs_of t p) o from start end w.none c searched (omega arith) (walked_refused w.walked h start end q q₁);
      }

gap_of : (t : List ℕ) (r : Run) (n : NodesApart (nodes_of t r)) → (i : ℕ) → i ≤ r.count → GapAt (apart_in_order n).size t r i
gap_of t r n = gap_at (apart_in_order n).size t r (in_order_nodes (apart_in_order n))

-- ---- `last_cut`: i nodes lie before the gap, and no offset behind hi, up to `bound`, is a cut

pub record DownWalk (text t : List ℕ) (r p : Run) (d : Passed) (bound i blocks warichu hi : ℕ) : Type 0 where
  pub from : d.unmatched ≤ i
  pub upto : i ≤ d.count
  pub blocks_small : blocks ≤ i
  pub warichu_small : warichu ≤ i
  pub blocks_at : blocks ≡ (depths_at t r.at i).depths.blocks
  pub warichu_at : warichu ≡ (depths_at t r.at i).depths.warichu
  pub before : i < r.count → hi ≤ (node_at t r i).source_span.start
  pub below : hi ≤ bound
  pub none : Refused (cut_allowed text (nodes_of t r) (pairs_of t p)) (hi + 1) (bound + 1)

module _ {text t : List ℕ} {r p : Run} {d : Passed} {bound : ℕ} (n : NodesApart (nodes_of t r)) (f : Front t r bound d) where
  pub down_none : DownWalk text t r p d bound d.count d.depths.blocks d.depths.warichu bound
  down_none =
      let e : d.depths.blocks ≡ (depths_at t r.at d.count).depths.blocks = ap (λ (x : Passed). x.depths.blocks) f.is in
      let g : d.depths.warichu ≡ (depths_at t r.at d.count).depths.warichu = ap (λ (x : Passed). x.depths.warichu) f.is in
      let w = (gap_of t r n d.count f.within).walked in
      record {
        from = omega (arith, ap (λ (x : Passed). x.unmatched) f.is, unmatched_small t r.at d.count);
        upto = omega arith;
        blocks_small = omega (arith, e, w.blocks_small);
        warichu_small = omega (arith, g, w.warichu_small);
        blocks_at = e;
        warichu_at = g;
        before = f.stops;
        below = omega arith;
        none = refused_none (bound + 1) (bound + 1) (omega arith);
      }

  module _ {i blocks warichu hi : ℕ} (w : DownWalk text t r p d bound i blocks warichu hi) (lo : ℕ) (q : lo ≡ gap_from t r i) where
    pub down_positive : 1 ≤ lo
    down_positive = omega (arith, q, (gap_of t r n i (omega (arith, w.upto, f.within))).positive)

    down_gap : (k : ℕ) → lo ≤ k → k ≤ hi → nodes_allow_cut (nodes_of t r) k ≡ depths_zero blocks warichu
    down_gap k x y =
        let g = gap_of t r n i (omega (arith, w.upto, f.within)) in
        rw (w.blocks_at, w.warichu_at) (by_bool (ltb i r.count)
        (λ e.
        let h = ltb-true i r.count e in
        let n = node_at t r i in
        walked_gap g.walked h n.source_span.start n.source_span.end refl refl k (omega (arith, q, g.low)) (omega (arith, w.before h)))
        (λ e. walked_rest g.walked (ltb-false i r.count e) k (omega (arith, q, g.low))))

    module _ (e₀ : ℕ) (m₀ : e₀ ≡ min (lo - 1) hi) (c : ℕ) (e : c ≡ gap_last text (pairs_of t p) blocks warichu lo (hi + 1) e₀) where
      down_here : Down (cut_allowed text (nodes_of t r) (pairs_of t p)) lo hi c
      down_here = gap_down text (nodes_of t r) (pairs_of t p) blocks warichu lo hi down_positive down_gap e₀ m₀ c e

      low : gap_from t r d.unmatched ≤ lo
      low = omega (arith, q, gap_rises (apart_in_order n).size t r (in_order_nodes (apart_in_order n)) (i - d.unmatched) d.unmatched i (omega (arith, w.from)) (omega (arith, w.upto, f.within)))

      low_positive : 1 ≤ gap_from t r d.unmatched
      low_positive = (gap_of t r n d.unmatched (omega (arith, w.from, w.upto, f.within))).positive

      pub down_found : lo ≤ c → c ≡ last_cut text (nodes_of t r) (pairs_of t p) (gap_from t r d.unmatched) bound
      down_found h = cut_found text (nodes_of t r) (pairs_of t p) (gap_from t r d.unmatched) bound hi low_positive w.none w.below lo c low down_here h

      pub down_done : i ≤ d.unmatched → c < lo → 0 ≡ last_cut text (nodes_of t r) (pairs_of t p) (gap_from t r d.unmatched) bound
      down_done z h =
          let s : i ≡ d.unmatched = omega (arith, w.from) in
          cut_none text (nodes_of t r) (pairs_of t p) (gap_from t r d.unmatched) bound hi low_positive w.none w.below lo c low down_here h (q ∙ ap (gap_from t r) s)

      -- over the node numbered j, before the gap
      pub down_more : c < lo → (j : ℕ) → j ≡ i - 1 → d.unmatched < i → (start : ℕ) → start ≡ (node_at t r j).source_span.start → (hi' : ℕ) → hi' ≡ min c start
          → (blocks' warichu' : ℕ) → blocks' ≡ depth_behind is_block_close is_block_open blocks (node_at t r j)
          → warichu' ≡ depth_behind is_warichu_close is_warichu_open warichu (node_at t r j) → DownWalk text t r p d bound j blocks' warichu' hi'
      down_more h j s u start a hi' m blocks' warichu' x y =
          let v : i ≡ j + 1 = omega arith in
          let g = gap_of t r n j (omega (arith, w.upto, f.within)) in
          let b : (depths_at t r.at d.count).unmatched ≤ j = omega (arith, ap (λ (z : Passed). z.unmatched) f.is) in
          let e₁ = blocks_back t r.at d.count j b (omega (arith, w.upto)) blocks blocks' (w.blocks_at ∙ ap (λ (z : ℕ). (depths_at t r.at z).depths.blocks) v) x in
          let e₂ = warichu_back t r.at d.count j b (omega (arith, w.upto)) warichu warichu' (w.warichu_at ∙ ap (λ (z : ℕ). (depths_at t r.at z).depths.warichu) v) y in
          let end : lo ≡ (node_at t r j).source_span.end = q ∙ ap (gap_from t r) v ∙ gap_next t r j in
          let inner = walked_refused g.walked (omega (arith, w.upto, f.within)) start lo a end in
          record {
            from = omega arith;
            upto = omega (arith, w.upto);
            blocks_small = omega (arith, e₁, g.walked.blocks_small);
            warichu_small = omega (arith, e₂, g.walked.warichu_small);
            blocks_at = e₁;
            warichu_at = e₂;
            before = λ z. omega (arith, a, m);
            below = omega (arith, m, down_here.to, w.below);
            none =
                rw m (cut_over text (nodes_of t r) (pairs_of t p) (gap_from t r d.unmatched) bound hi low_positive w.none w.below
                lo c low down_here start h inner);
          }

-- ---- `last_cut_before`: `last` is the last cut before `from`

pub record LastWalk (text t : List ℕ) (r p : Run) (bound i from blocks warichu last : ℕ) : Type 0 where
  pub size : ℕ
  pub walked : Walked size t r i from blocks warichu
  pub latest : Latest (cut_allowed text (nodes_of t r) (pairs_of t p)) from last
  pub below : last ≤ bound

pub last_walk_none : (text t : List ℕ) (r p : Run) (bound : ℕ) → NodesApart (nodes_of t r) → LastWalk text t r p bound 0 0 0 0 0
last_walk_none text t r p bound h = record {
  size = (apart_in_order h).size;
  walked = walked_none (apart_in_order h).size t r (in_order_nodes (apart_in_order h));
  latest = latest_none (cut_allowed text (nodes_of t r) (pairs_of t p));
  below = omega arith;
}

module _ {text t : List ℕ} {r p : Run} {bound i from blocks warichu last : ℕ} (w : LastWalk text t r p bound i from blocks warichu last) where
  pub last_walk_done : r.count ≤ i → (c : ℕ) → c ≡ gap_last text (pairs_of t p) blocks warichu from (bound + 1) last → c ≡ last_cut text (nodes_of t r) (pairs_of t p) 1 bound
  last_walk_done h c q =
      latest_cut text (nodes_of t r) (pairs_of t p)
      (latest_gap text (nodes_of t r) (pairs_of t p) blocks warichu from (bound + 1) last w.latest (λ k x y. walked_rest w.walked h k x) c q bound w.below (omega arith))

  module _ (h : i < r.count) (start : ℕ) (q : start ≡ (node_at t r i).source_span.start) where
    gap : (k : ℕ) → from ≤ k → k ≤ start → nodes_allow_cut (nodes_of t r) k ≡ depths_zero blocks warichu
    gap k x y = walked_gap w.walked h start (node_at t r i).source_span.end q refl k x y

    pub last_walk_stop : bound ≤ start → (c : ℕ) → c ≡ gap_last text (pairs_of t p) blocks warichu from (bound + 1) last → c ≡ last_cut text (nodes_of t r) (pairs_of t p) 1 bound
    last_walk_stop b c e =
        latest_cut text (nodes_of t r) (pairs_of t p)
        (latest_gap text (nodes_of t r) (pairs_of t p) blocks warichu from (bound + 1) last w.latest (λ k x y. gap k x (omega arith)) c e bound w.below (omega arith))

    pub last_walk_more : start < bound → (c : ℕ) → c ≡ gap_last text (pairs_of t p) blocks warichu from (start + 1) last
        → (end : ℕ) → end ≡ (node_at t r i).source_span.end → (blocks' warichu' : ℕ) → blocks' ≡ depth_behind is_block_open is_block_close blocks (node_at t r i)
        → warichu' ≡ depth_behind is_warichu_open is_warichu_close warichu (node_at t r i) → LastWalk text t r p bound (i + 1) end blocks' warichu' c
    last_walk_more b c g end q₁ blocks' warichu' e f =
        let l = latest_gap text (nodes_of t r) (pairs_of t p) blocks warichu from (start + 1) last w.latest (λ k x y. gap k x (omega arith)) c g bound w.below (omega arith) in
        record {
          size = w.size;
          walked = walked_more w.walked h start end q q₁ blocks' warichu' e f;
          latest = latest_node text (nodes_of t r) (pairs_of t p) start l.0 (walked_refused w.walked h start end q q₁);
          below = l.1;
        }

-- ---- `region_start`: behind the last unmatched close, then before it

module _ (t : List ℕ) (r : Run) (o : ℕ) (d : Passed) (q : d ≡ depths_before o no_depths (nodes_of t r)) where
  pub start_front : Front t r o d
  start_front = (front_of t r o r.count (omega arith) (λ b. absurd (omega arith)) d q).0

  pub start_falls : d.unmatched ≤ r.count
  start_falls = let f = start_front in omega (arith, ap (λ (x : Passed). x.unmatched) f.is, unmatched_small t r.at d.count, f.within)

  module _ (text : List ℕ) (p : Run) (inside : o ≤ length text) (x : Bool) (ends : x ≡ ends_behind_newline text o) (no : x ≡ false) (n : NodesApart (nodes_of t r))
      (c : ℕ) (e : c ≡ last_cut text (nodes_of t r) (pairs_of t p) (gap_from t r d.unmatched) o) where
    gap_here : GapAt (apart_in_order n).size t r d.unmatched
    gap_here = gap_of t r n d.unmatched start_falls

    pub start_walk_found : 0 < c → c ≡ region_start_in text (nodes_of t r) (pairs_of t p) o
    start_walk_found h = start_found text (nodes_of t r) (pairs_of t p) o (gap_from t r d.unmatched) c gap_here.positive e h (sym ends ∙ no) inside

    behind_gap : c ≤ 0 → Refused (cut_allowed text (nodes_of t r) (pairs_of t p)) (gap_from t r d.unmatched) (o + 1)
    behind_gap z = start_more text (nodes_of t r) (pairs_of t p) o (gap_from t r d.unmatched) c gap_here.positive e z

    pub start_walk_first : c ≤ 0 → d.unmatched ≡ 0 → 0 ≡ region_start_in text (nodes_of t r) (pairs_of t p) o
    unfolding gap_from
    start_walk_first z h =
        let f : Refused (cut_allowed text (nodes_of t r) (pairs_of t p)) (0 + 1) (o + 1) = rw h at (behind_gap z) in
        start_is text (nodes_of t r) (pairs_of t p) o 0 (sym ends ∙ no) inside (omega arith) (record { passes = inl refl; behind = f })

    -- before the last unmatched close, numbered j
    pub start_walk_rest : c ≤ 0 → (d.unmatched ≡ 0 → ⊥) → (j : ℕ) → j ≡ d.unmatched - 1 → (start : ℕ) → start ≡ (node_at t r j).source_span.start
        → (hi : ℕ) → hi ≡ min o start → (c' : ℕ) → c' ≡ last_cut text (nodes_of t r) (pairs_of t p) 1 hi → c' ≡ region_start_in text (nodes_of t r) (pairs_of t p) o
    start_walk_rest z h j s start a hi m c' last =
        let v : d.unmatched ≡ j + 1 = omega (arith, h) in
        let l : j < r.count = omega (arith, start_falls) in
        let g = gap_of t r n j (omega arith) in
        let end : gap_from t r d.unmatched ≡ (node_at t r j).source_span.end = ap (gap_from t r) v ∙ gap_next t r j in
        let inner = walked_refused g.walked l start (node_at t r j).source_span.end a refl in
        let latest = cut_latest text (nodes_of t r) (pairs_of t p) hi c' last in
        start_is text (nodes_of t r) (pairs_of t p) o c' (sym ends ∙ no) inside (omega (arith, m, latest.1)) (record {
          passes = latest.0.passes;
          behind = record {
            fails = λ k x y.
                by_bool (ltb k (hi + 1))
                (λ u. latest.0.behind.fails k x (ltb-true k (hi + 1) u))
                (λ u.
                let z₁ = ltb-false k (hi + 1) u in
                by_bool (ltb k (gap_from t r d.unmatched))
                (λ i.
                let y₁ = ltb-true k (gap_from t r d.unmatched) i in
                allowed_not text (nodes_of t r) (pairs_of t p) k (inner.fails k (omega (arith, m)) (omega (arith, end))))
                (λ i. (behind_gap z).fails k (ltb-false k (gap_from t r d.unmatched) i) y));
          };
        })
