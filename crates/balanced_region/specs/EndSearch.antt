-- The search for a region's end, as the code goes: gap by gap, the first offset that text and pairs allow.
use Prim.Native.Nat.{ℕ, zero, suc, ◌+◌, ◌-◌, ◌≤◌, ◌<◌, max}
use native.Mathlib.Omega.{arith}
use Rattle.std.specs.Prelude.{◌≡◌, Bool, false, ◌&&◌, List, leb, ltb, eqb}
use Rattle.std.proofs.Math.Path.{refl, sym, ap}
use Rattle.std.proofs.Common.{◌∙◌}
use Rattle.std.proofs.Math.Bool.{true, cond, and-false, and-true}
use Rattle.std.proofs.Math.ListN.{length}
use borrow.Author.Tests.{ltb-true, ltb-false, leb-true, leb-false, eqb-true, eqb-false}
use Rattle.model.specs.Types.{SourceNode, PairLink}
use Rattle.model.specs.Region.{newline_at, blank_line_before, nodes_allow_cut, pairs_allow_cut}
use Rattle.facts.specs.Truth.{by_bool}
use Rattle.cuts.specs.Safe.{cut_allowed, safe_test, safe_cut_in}
use Rattle.balanced_region.specs.Ends.{region_end_in}
use Rattle.cuts.specs.Offsets.{Refused, refused_none, refused_join, first_in, first_is, refused_part, first_none, First, first_of}
use Rattle.cuts.specs.Pairs.{reach, reach_free, reach_covers}
use Rattle.cuts.specs.Gaps.{depths_zero}

-- text and pairs allow it
unfoldable pub text_pairs_allow : List ℕ → List PairLink → ℕ → Bool
text_pairs_allow text ps c = blank_line_before text c && pairs_allow_cut ps c

-- the next offset to try, from c on: c itself if text and pairs allow it; those that are passed over they refuse
unfoldable pub next_try : List ℕ → List PairLink → ℕ → ℕ
next_try text ps c = cond (blank_line_before text c) (max c (reach ps c)) (c + 1)

module _ (text : List ℕ) (ps : List PairLink) (c : ℕ) where
  pub try_at_least : c ≤ next_try text ps c
  unfolding next_try
  try_at_least = by_bool (blank_line_before text c) (λ e. rw e (omega arith)) (λ e. rw e (omega arith))

  pub try_allows : next_try text ps c ≡ c → text_pairs_allow text ps c ≡ true
  unfolding next_try text_pairs_allow
  try_allows h =
      by_bool (blank_line_before text c)
      (λ e. rw e (reach_free ps c (rw e at h)))
      (λ e. let q : c + 1 ≡ c = rw e at h in absurd (omega arith))

  pub try_refuses : Refused (text_pairs_allow text ps) c (next_try text ps c)
  unfolding next_try text_pairs_allow
  try_refuses =
      by_bool (blank_line_before text c)
      (λ e. rw e (record { fails = λ k a b. rw ((reach_covers ps c).fails k a b, and-false) refl }))
      (λ e. rw e (record { fails = λ k a b. let q : k ≡ c = omega arith in rw (q, e) refl }))

  pub try_rises : (r : ℕ) → r ≡ next_try text ps c → (r ≡ c → ⊥) → c < r
  try_rises r q ne = omega (arith, q, ne, try_at_least)

  -- the code's answers
  pub try_no_line : (x : Bool) → x ≡ blank_line_before text c → x ≡ false → c + 1 ≡ next_try text ps c
  unfolding next_try
  try_no_line x q e = rw (← q, e) refl

  pub try_pair : (x : Bool) → x ≡ blank_line_before text c → x ≡ true → (a : ℕ) → a ≡ reach ps c → (r : ℕ) → r ≡ max c a → r ≡ next_try text ps c
  unfolding next_try
  try_pair x q e a f r s = s ∙ rw (← q, e, f) refl

  -- the offset itself is tried next just if it is allowed
  pub try_same : (r : ℕ) → r ≡ next_try text ps c → eqb r c ≡ text_pairs_allow text ps c
  try_same r q =
      by_bool (eqb r c)
      (λ e. e ∙ sym (try_allows (sym q ∙ eqb-true r c e)))
      (λ e. e ∙ sym (try_refuses.fails c (omega arith) (omega (arith, q, eqb-false r c e, try_at_least))))

-- the search in one gap: c is the offset to try next
pub record Tried (P : ℕ → Bool) (lo c : ℕ) : Type 0 where
  pub from : lo ≤ c
  pub none : Refused P lo c

pub tried_start : (P : ℕ → Bool) (lo : ℕ) → Tried P lo lo
tried_start P lo = record { from = omega arith; none = refused_none lo lo (omega arith) }

module _ (text : List ℕ) (ps : List PairLink) {lo c : ℕ} (t : Tried (text_pairs_allow text ps) lo c) (r : ℕ) (q : r ≡ next_try text ps c) where
  pub tried_more : Tried (text_pairs_allow text ps) lo r
  tried_more = record {
    from = omega (arith, q, try_at_least text ps c, t.from);
    none = rw q (refused_join t.none (try_refuses text ps c));
  }

  pub tried_found : (hi : ℕ) → c < hi → r ≡ c → c ≡ first_in (text_pairs_allow text ps) (hi - lo) hi
  tried_found hi h e =
      sym (first_is (text_pairs_allow text ps) (hi - lo) {lo = lo} {hi = hi} (omega (arith, t.from)) (record {
        from = t.from;
        to = omega arith;
        before = t.none;
        passes = λ g. try_allows text ps c (sym q ∙ e);
      }))

pub tried_none : {P : ℕ → Bool} {lo c : ℕ} → Tried P lo c → (hi : ℕ) → hi ≤ c → hi ≡ first_in P (hi - lo) hi
tried_none {P} {lo} {c} t hi h =
    by_bool (leb lo hi)
    (λ e.
    let l = leb-true lo hi e in
    sym (first_is P (hi - lo) {lo = lo} {hi = hi} (omega arith) (record {
      from = l;
      to = omega arith;
      before = refused_part t.none lo hi (omega arith) h;
      passes = λ g. absurd (omega arith);
    })))
    (λ e. let l = leb-false lo hi e in let z : hi - lo ≡ 0 = omega arith in rw z (first_none P hi))

-- of a gap with these depths
unfoldable pub gap_first : List ℕ → List PairLink → ℕ → ℕ → ℕ → ℕ → ℕ
gap_first text ps blocks warichu lo hi = cond (depths_zero blocks warichu) (first_in (text_pairs_allow text ps) (hi - lo) hi) hi

-- the code's answers
module _ (text : List ℕ) (ps : List PairLink) (blocks warichu lo hi : ℕ) (x : Bool) (q : x ≡ depths_zero blocks warichu) where
  pub gap_closed : x ≡ false → hi ≡ gap_first text ps blocks warichu lo hi
  unfolding gap_first
  gap_closed e = rw (← q, e) refl

  pub gap_open : x ≡ true → (from : ℕ) → from ≡ lo → (r : ℕ) → r ≡ first_in (text_pairs_allow text ps) (hi - from) hi → r ≡ gap_first text ps blocks warichu lo hi
  unfolding gap_first
  gap_open e from s r f = f ∙ rw (← q, e, s) refl

-- what the search in a gap tells, with all three tests
pub record Searched (P : ℕ → Bool) (lo hi r : ℕ) : Type 0 where
  pub before : Refused P lo r
  pub to : r ≤ hi
  pub passes : r < hi → (lo ≤ r) × (P r ≡ true)

module _ (text : List ℕ) (ns : List SourceNode) (ps : List PairLink) where
  -- where the nodes are known to allow or to refuse
  pub allowed_there : (c : ℕ) → nodes_allow_cut ns c ≡ true → cut_allowed text ns ps c ≡ text_pairs_allow text ps c
  unfolding cut_allowed text_pairs_allow
  allowed_there c e = rw (e, and-true) refl

  pub allowed_not : (c : ℕ) → nodes_allow_cut ns c ≡ false → cut_allowed text ns ps c ≡ false
  unfolding cut_allowed
  allowed_not c e = rw (e, and-false) refl

  pub gap_searched : (blocks warichu lo hi : ℕ) → ((c : ℕ) → lo ≤ c → c < hi → nodes_allow_cut ns c ≡ depths_zero blocks warichu)
      → (r : ℕ) → r ≡ gap_first text ps blocks warichu lo hi → Searched (cut_allowed text ns ps) lo hi r
  unfolding gap_first
  gap_searched blocks warichu lo hi g r q =
      by_bool (depths_zero blocks warichu)
      (λ e.
      let s : r ≡ first_in (text_pairs_allow text ps) (hi - lo) hi = rw e at q in
      by_bool (leb lo hi)
      (λ f.
      let l = leb-true lo hi f in
      let o : First (text_pairs_allow text ps) lo hi r = rw s (first_of (text_pairs_allow text ps) (hi - lo) {lo = lo} {hi = hi} (omega arith)) in
      record {
        before = record { fails = λ k a b. allowed_there k (g k a (omega (arith, o.to)) ∙ e) ∙ o.before.fails k a b };
        to = o.to;
        passes = λ b. (o.from, allowed_there r (g r o.from b ∙ e) ∙ o.passes b);
      })
      (λ f.
      let l = leb-false lo hi f in
      let z : hi - lo ≡ 0 = omega arith in
      let w : r ≡ hi = s ∙ ap (λ (n : ℕ). first_in (text_pairs_allow text ps) n hi) z ∙ sym (first_none (text_pairs_allow text ps) hi) in
      record { before = refused_none lo r (omega arith); to = omega arith; passes = λ b. absurd (omega arith) }))
      (λ e.
      let s : r ≡ hi = rw e at q in
      record {
        before = record { fails = λ k a b. allowed_not k (g k a (omega arith) ∙ e) };
        to = omega arith;
        passes = λ b. absurd (omega arith);
      })

  -- all behind the edit and before `from` are refused: over the next gap, to its end and over the node
  pub refused_on : (o from start end : ℕ) → Refused (cut_allowed text ns ps) (o + 1) from → (r : ℕ)
      → Searched (cut_allowed text ns ps) (max from (o + 1)) (start + 1) r → start + 1 ≤ r
      → Refused (nodes_allow_cut ns) (start + 1) end → Refused (cut_allowed text ns ps) (o + 1) end
  refused_on o from start end a r s h n = record {
    fails = λ k x y.
        by_bool (ltb k from) (λ e. a.fails k x (ltb-true k from e))
        (λ e. by_bool (ltb k (start + 1))
        (λ f. s.before.fails k (omega (arith, ltb-false k from e)) (omega (arith, ltb-true k (start + 1) f)))
        (λ f. allowed_not k (n.fails k (ltb-false k (start + 1) f) y)));
  }

  -- ---- the end is the first that is allowed, else the length

  -- n bytes are left
  end_from : (n o r : ℕ) → o + n ≡ length text → Refused (cut_allowed text ns ps) (o + 1) r → r ≤ length text
      → (r < length text → (o < r) × (cut_allowed text ns ps r ≡ true)) → region_end_in text ns ps n o ≡ r
  unfolding region_end_in
  end_from zero o r q f t p =
      by_bool (ltb r (length text))
      (λ e. absurd (omega (arith, (p (ltb-true r (length text) e)).0)))
      (λ e. omega (arith, ltb-false r (length text) e))
  end_from (suc n) o r q f t p =
      by_bool (ltb (o + 1) (length text))
      (λ e.
      let inside = ltb-true (o + 1) (length text) e in
      let same = safe_test text ns ps (o + 1) o refl (λ z. absurd (omega arith)) in
      let on : o + 1 < r → cond (newline_at text o && safe_cut_in text ns ps (o + 1)) (o + 1) (region_end_in text ns ps n (o + 1)) ≡ r
      = λ h. rw (same, f.fails (o + 1) (omega arith) h)
      (end_from n (o + 1) r (omega arith) (refused_part f (o + 1 + 1) r (omega arith) (omega arith)) t (λ b. (h, (p b).1))) in
      by_bool (ltb (o + 1) r)
      (λ g. on (ltb-true (o + 1) r g))
      (λ g.
      let b : r < length text = omega (arith, ltb-false (o + 1) r g) in
      let s : r ≡ o + 1 = omega (arith, ltb-false (o + 1) r g, (p b).0) in
      let a : cut_allowed text ns ps (o + 1) ≡ true = rw (← s) (p b).1 in
      rw (same, a) (sym s)))
      (λ e.
      let z : n ≡ 0 = omega (arith, ltb-false (o + 1) (length text) e) in
      let l : o + 1 ≡ length text = omega arith in
      let s : r ≡ length text
      = by_bool (ltb r (length text))
      (λ g. absurd (omega (arith, (p (ltb-true r (length text) g)).0, ltb-true r (length text) g)))
      (λ g. omega (arith, ltb-false r (length text) g)) in
      by_bool (newline_at text o && safe_cut_in text ns ps (o + 1)) (λ g. rw g (l ∙ sym s)) (λ g. rw (g, z) (sym s)))

  pub end_is : (o r : ℕ) → o ≤ length text → Refused (cut_allowed text ns ps) (o + 1) r → r ≤ length text
      → (r < length text → (o < r) × (cut_allowed text ns ps r ≡ true)) → r ≡ region_end_in text ns ps (length text - o) o
  end_is o r h f t p = sym (end_from (length text - o) o r (omega arith) f t p)

  -- found in a gap, or looked for in the last
  module _ (o from hi r : ℕ) (h : o ≤ length text) (a : Refused (cut_allowed text ns ps) (o + 1) from) (s : Searched (cut_allowed text ns ps) (max from (o + 1)) hi r) where
    refused_here : Refused (cut_allowed text ns ps) (o + 1) r
    refused_here = record { fails = λ k x y. by_bool (ltb k from) (λ e. a.fails k x (ltb-true k from e)) (λ e. s.before.fails k (omega (arith, ltb-false k from e)) y) }

    pub end_found : r < hi → hi ≤ length text → r ≡ region_end_in text ns ps (length text - o) o
    end_found b l = let p = s.passes b in end_is o r h refused_here (omega arith) (λ x. (omega (arith, p.0), p.1))

    pub end_last : hi ≡ length text → r ≡ region_end_in text ns ps (length text - o) o
    end_last e = end_is o r h refused_here (omega (arith, s.to)) (λ x. let p = s.passes (omega arith) in (omega (arith, p.0), p.1))
