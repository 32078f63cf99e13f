-- The search for a region's start, as the code goes: gap by gap, downwards or upwards, the last offset that text and pairs allow.
use Prim.Native.Nat.{ℕ, zero, suc, ◌+◌, ◌-◌, ◌≤◌, ◌<◌, min}
use native.Mathlib.Omega.{arith}
use Rattle.std.proofs.Common.{inl, inr, ◌∙◌, true≢false}
use Rattle.std.specs.Prelude.{◌≡◌, Bool, false, cond, ◌&&◌, List, ltb, eqb}
use Rattle.std.proofs.Math.Path.{refl, sym, ap}
use Rattle.std.proofs.Math.Bool.{true, and-false}
use Rattle.std.proofs.Math.ListN.{length}
use Rattle.std.proofs.Math.Dec.{leb}
use borrow.Author.Tests.{ltb-true, ltb-false, eq-eqb, ne_eqb, le-leb}
use Rattle.model.specs.Types.{SourceNode, PairLink}
use Rattle.model.specs.Region.{newline_at, nodes_allow_cut}
use Rattle.facts.specs.Truth.{both, by_bool}
use Rattle.cuts.specs.Safe.{safe_cut_in, cut_allowed, safe_test}
use Rattle.balanced_region.specs.Ends.{region_start_in}
use Rattle.cuts.specs.Offsets.{last_from, Latest, last_or, last_is, LastOr, Refused, latest_is, latest_of, refused_part, refused_join}
use Rattle.cuts.specs.Gaps.{depths_zero}
use Rattle.balanced_region.specs.EndSearch.{text_pairs_allow, allowed_there, allowed_not}

-- of a gap with these depths the last from lo on and before hi that text and pairs allow, else d
unfoldable pub gap_last : List ℕ → List PairLink → ℕ → ℕ → ℕ → ℕ → ℕ → ℕ
gap_last text ps blocks warichu lo hi d = cond (depths_zero blocks warichu) (last_from (text_pairs_allow text ps) (hi - lo) lo d) d

-- the last cut from lo on and at or before `bound`, else 0
unfoldable pub last_cut : List ℕ → List SourceNode → List PairLink → ℕ → ℕ → ℕ
last_cut text ns ps lo bound = last_from (cut_allowed text ns ps) (bound + 1 - lo) lo 0

-- the code's answers
module _ (text : List ℕ) (ps : List PairLink) (blocks warichu lo hi d : ℕ) (x : Bool) (q : x ≡ depths_zero blocks warichu) where
  pub last_closed : x ≡ false → d ≡ gap_last text ps blocks warichu lo hi d
  unfolding gap_last
  last_closed e = rw (← q, e) refl

  pub last_open : x ≡ true → (r : ℕ) → r ≡ last_from (text_pairs_allow text ps) (hi - lo) lo d → r ≡ gap_last text ps blocks warichu lo hi d
  unfolding gap_last
  last_open e r f = f ∙ rw (← q, e) refl

-- ---- what they tell with all three tests

-- from hi down to r all but r are refused, and r passes unless it lies before lo
pub record Down (P : ℕ → Bool) (lo hi r : ℕ) : Type 0 where
  pub to : r ≤ hi
  pub behind : Refused P (r + 1) (hi + 1)
  pub passes : lo ≤ r → P r ≡ true

module _ (text : List ℕ) (ns : List SourceNode) (ps : List PairLink) where
  both_refuse : (k : ℕ) → text_pairs_allow text ps k ≡ false → cut_allowed text ns ps k ≡ false
  both_refuse k f = by_bool (nodes_allow_cut ns k) (λ e. allowed_there text ns ps k e ∙ f) (λ e. allowed_not text ns ps k e)

  -- downwards: where there is none in the gap, the search goes on before it
  pub gap_down : (blocks warichu lo hi : ℕ) → 1 ≤ lo → ((c : ℕ) → lo ≤ c → c ≤ hi → nodes_allow_cut ns c ≡ depths_zero blocks warichu)
      → (d : ℕ) → d ≡ min (lo - 1) hi → (r : ℕ) → r ≡ gap_last text ps blocks warichu lo (hi + 1) d → Down (cut_allowed text ns ps) lo hi r
  unfolding gap_last
  gap_down blocks warichu lo hi l g d m r q =
      by_bool (depths_zero blocks warichu)
      (λ e. inside e (rw (rw e at q) (last_or (text_pairs_allow text ps) (hi + 1 - lo) lo d)))
      (λ e.
      let s : r ≡ d = rw e at q in
      record {
        to = omega arith;
        behind = record { fails = λ k a b. allowed_not text ns ps k (g k (omega arith) (omega arith) ∙ e) };
        passes = λ a. absurd (omega arith);
      })
    where
      found : depths_zero blocks warichu ≡ true → lo ≤ r → r ≤ hi → text_pairs_allow text ps r ≡ true → cut_allowed text ns ps r ≡ true
      found e a b p = allowed_there text ns ps r (g r a b ∙ e) ∙ p

      inside : depths_zero blocks warichu ≡ true → LastOr (text_pairs_allow text ps) lo (lo + (hi + 1 - lo)) d r → Down (cut_allowed text ns ps) lo hi r
      inside e (inl (a, b, p, f)) = record {
        to = omega arith;
        behind = record { fails = λ k x y. both_refuse k (f.fails k x (omega arith)) };
        passes = λ x. found e a (omega arith) p;
      }
      inside e (inr (s, f)) = record {
        to = omega arith;
        behind = record { fails = λ k x y. both_refuse k (f.fails k (omega arith) (omega arith)) };
        passes = λ x. absurd (omega arith);
      }

  -- upwards: the last so far, over the next gap
  pub latest_gap : (blocks warichu from hi d : ℕ) → Latest (cut_allowed text ns ps) from d → ((c : ℕ) → from ≤ c → c < hi → nodes_allow_cut ns c ≡ depths_zero blocks warichu)
      → (r : ℕ) → r ≡ gap_last text ps blocks warichu from hi d → (bound : ℕ) → d ≤ bound → hi ≤ bound + 1 → Latest (cut_allowed text ns ps) hi r × (r ≤ bound)
  unfolding gap_last
  latest_gap blocks warichu from hi d l g r q bound b h =
      by_bool (depths_zero blocks warichu)
      (λ e. inside e (rw (rw e at q) (last_or (text_pairs_allow text ps) (hi - from) from d)))
      (λ e. let s : r ≡ d = rw e at q in (same s (λ k x y. allowed_not text ns ps k (g k x y ∙ e)), omega arith))
    where
      found : depths_zero blocks warichu ≡ true → from ≤ r → r < from + (hi - from) → text_pairs_allow text ps r ≡ true → cut_allowed text ns ps r ≡ true
      found e a u p = allowed_there text ns ps r (g r a (omega arith) ∙ e) ∙ p

      same : r ≡ d → ((k : ℕ) → from ≤ k → k < hi → cut_allowed text ns ps k ≡ false) → Latest (cut_allowed text ns ps) hi r
      same s f = rw s (record {
        passes = l.passes;
        behind = record { fails = λ k x y. by_bool (ltb k from) (λ t. l.behind.fails k x (ltb-true k from t)) (λ t. f k (ltb-false k from t) y) };
      })

      inside : depths_zero blocks warichu ≡ true → LastOr (text_pairs_allow text ps) from (from + (hi - from)) d r → Latest (cut_allowed text ns ps) hi r × (r ≤ bound)
      inside e (inl (a, u, p, f)) = (
        record {
          passes = inr (found e a u p);
          behind = record { fails = λ k x y. both_refuse k (f.fails k x (omega arith)) };
        },
        omega arith,
      )
      inside e (inr (s, f)) = (same s (λ k x y. both_refuse k (f.fails k x (omega arith))), omega arith)

  -- over the node behind it
  pub latest_node : (start : ℕ) {end r : ℕ} → Latest (cut_allowed text ns ps) (start + 1) r → Refused (nodes_allow_cut ns) (start + 1) end
      → Latest (cut_allowed text ns ps) end r
  latest_node start l n = record {
    passes = l.passes;
    behind = record {
      fails = λ k x y.
          by_bool (ltb k (start + 1))
          (λ t. l.behind.fails k x (ltb-true k (start + 1) t))
          (λ t. allowed_not text ns ps k (n.fails k (ltb-false k (start + 1) t) y));
    };
  }

  pub latest_cut : {bound r : ℕ} → Latest (cut_allowed text ns ps) (bound + 1) r × (r ≤ bound) → r ≡ last_cut text ns ps 1 bound
  unfolding last_cut
  latest_cut {bound} {r} (l, h) = let q : bound + 1 - 1 ≡ bound = omega arith in rw q (sym (latest_is (cut_allowed text ns ps) bound r h l))

  pub cut_latest : (bound r : ℕ) → r ≡ last_cut text ns ps 1 bound → Latest (cut_allowed text ns ps) (bound + 1) r × (r ≤ bound)
  unfolding last_cut
  cut_latest bound r q =
      let e : bound + 1 - 1 ≡ bound = omega arith in
      let s : r ≡ last_from (cut_allowed text ns ps) bound 1 0 = q ∙ ap (λ (n : ℕ). last_from (cut_allowed text ns ps) n 1 0) e in
      rw s (latest_of (cut_allowed text ns ps) bound)

  -- the search over the gaps from lo on: those behind hi are refused
  module _ (lo bound hi : ℕ) (l : 1 ≤ lo) (f : Refused (cut_allowed text ns ps) (hi + 1) (bound + 1)) (b : hi ≤ bound)
      (from r : ℕ) (g : lo ≤ from) (d : Down (cut_allowed text ns ps) from hi r) where
    pub cut_found : from ≤ r → r ≡ last_cut text ns ps lo bound
    unfolding last_cut
    cut_found h =
        let m = d.to in
        let q : lo + (bound + 1 - lo) ≡ bound + 1 = omega arith in
        sym (last_is (cut_allowed text ns ps) (bound + 1 - lo) lo 0 r (inl (omega arith, omega arith, d.passes h, rw q (refused_join d.behind f))))

    pub cut_none : r < from → from ≡ lo → 0 ≡ last_cut text ns ps lo bound
    unfolding last_cut
    cut_none h e =
        let all = refused_join d.behind f in
        sym (last_is (cut_allowed text ns ps) (bound + 1 - lo) lo 0 0 (inr (refl, record { fails = λ k x y. all.fails k (omega arith) (omega arith) })))

    -- over the node before the gap
    pub cut_over : (start : ℕ) → r < from → Refused (nodes_allow_cut ns) (start + 1) from → Refused (cut_allowed text ns ps) (min r start + 1) (bound + 1)
    cut_over start h n =
        let all = refused_join d.behind f in
        record {
          fails = λ k x y.
              by_bool (ltb k (r + 1))
              (λ t. let u = ltb-true k (r + 1) t in allowed_not text ns ps k (n.fails k (omega arith) (omega arith)))
              (λ t. all.fails k (ltb-false k (r + 1) t) y);
        }

-- the length behind a newline: a start at the length
unfoldable pub ends_behind_newline : List ℕ → ℕ → Bool
ends_behind_newline text o = eqb o (length text) && leb 1 o && newline_at text (o - 1)

module _ (text : List ℕ) (ns : List SourceNode) (ps : List PairLink) where
  pub start_end : (o : ℕ) → ends_behind_newline text o ≡ true → o ≡ region_start_in text ns ps o
  unfolding ends_behind_newline region_start_in safe_cut_in
  start_end zero e = absurd (true≢false (sym (both (eqb 0 (length text) && leb 1 0) (newline_at text 0) e).0 ∙ and-false (eqb 0 (length text))))
  start_end (suc o) e =
      let s = both (eqb (suc o) (length text) && leb 1 (suc o)) (newline_at text (suc o - 1)) e in
      let l = (both (eqb (suc o) (length text)) (leb 1 (suc o)) s.0).0 in
      let q : suc o - 1 ≡ o = omega arith in
      let n : newline_at text o ≡ true = ap (newline_at text) (sym q) ∙ s.1 in
      rw (n, ne_eqb (suc o) 0 (λ z. omega arith), l) refl

  not_at_length : (o : ℕ) → ends_behind_newline text o ≡ false → o ≤ length text → (k c : ℕ) → c ≡ k + 1 → k < o → c ≡ length text → newline_at text k ≡ false
  unfolding ends_behind_newline
  not_at_length o e h k c q l z =
      let a : o ≡ length text = omega arith in
      let b : o - 1 ≡ k = omega arith in
      rw (eq-eqb o (length text) a, le-leb 1 o (omega arith), b) at e

  start_last : (o : ℕ) → ((k : ℕ) → k < o → newline_at text k && safe_cut_in text ns ps (suc k) ≡ cut_allowed text ns ps (suc k))
      → region_start_in text ns ps o ≡ last_from (cut_allowed text ns ps) o 1 0
  unfolding region_start_in last_from
  start_last zero f = refl
  start_last (suc o) f =
      let s : 1 + o ≡ suc o = omega arith in
      rw (f o (omega arith), s, start_last o (λ k h. f k (omega arith))) refl

  pub start_is : (o r : ℕ) → ends_behind_newline text o ≡ false → o ≤ length text → r ≤ o → Latest (cut_allowed text ns ps) (o + 1) r → r ≡ region_start_in text ns ps o
  start_is o r e h b l =
      sym (start_last o (λ k g. safe_test text ns ps (suc k) k (omega arith) (not_at_length o e h k (suc k) (omega arith) g))
      ∙ latest_is (cut_allowed text ns ps) o r b l)

  -- the last cut from lo on
  module _ (o lo c : ℕ) (l : 1 ≤ lo) (q : c ≡ last_cut text ns ps lo o) where
    last_cut_lem : LastOr (cut_allowed text ns ps) lo (lo + (o + 1 - lo)) 0 c
    unfolding last_cut
    last_cut_lem = rw q (last_or (cut_allowed text ns ps) (o + 1 - lo) lo 0)

    pub start_found : 0 < c → ends_behind_newline text o ≡ false → o ≤ length text → c ≡ region_start_in text ns ps o
    start_found p e h = go last_cut_lem
      where
        go : LastOr (cut_allowed text ns ps) lo (lo + (o + 1 - lo)) 0 c → c ≡ region_start_in text ns ps o
        go (inl (x, y, t, u)) =
            start_is o c e h (omega arith) (record { passes = inr t; behind = refused_part u (c + 1) (o + 1) (omega arith) (omega arith) })
        go (inr (z, u)) = absurd (omega arith)

    pub start_more : c ≤ 0 → Refused (cut_allowed text ns ps) lo (o + 1)
    start_more z = go last_cut_lem
      where
        go : LastOr (cut_allowed text ns ps) lo (lo + (o + 1 - lo)) 0 c → Refused (cut_allowed text ns ps) lo (o + 1)
        go (inl (x, y, t, u)) = absurd (omega arith)
        go (inr (e, u)) = record { fails = λ k x y. u.fails k x (omega arith) }
