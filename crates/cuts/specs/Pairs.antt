-- How far the pairs reach that start before an offset, and that this tells whether one lies across it.
use Prim.Native.Nat.{ℕ, suc, ◌+◌, ◌-◌, ◌*◌, ◌≤◌, ◌<◌, max}
use native.Mathlib.Omega.{arith}
use Rattle.std.specs.Prelude.{◌≡◌, true, cond, List, [], ◌∷◌, ltb, leb}
use Rattle.std.proofs.Math.Path.{refl, ap}
use Rattle.std.proofs.Common.{sym, ◌∙◌, lt-ltb, le-ltb, ltb-true, ltb-false, leb-true, leb-false, le-leb}
use Rattle.std.proofs.lemmas.Bool.{lt-leb}
use Rattle.model.specs.Types.{PairLink}
use Rattle.model.specs.Tape.{record_at, records_at, pair_codec}
use Rattle.model.specs.Region.{pairs_allow_cut}
use Rattle.facts.specs.Truth.{by_bool}
use Rattle.records.specs.Runs.{run_cons, run_none}
use Rattle.places.specs.declared.Run.{Run}
use Rattle.cuts.specs.Offsets.{Refused}

abbrev pub pairs_of : List ℕ → Run → List PairLink
pairs_of t r = records_at pair_codec t r.at r.count

-- the pairs from number i on
abbrev pub pairs_from : List ℕ → Run → ℕ → List PairLink
pairs_from t r i = records_at pair_codec t (r.at + 18 * i) (r.count - i)

-- what a pair adds to the reach at an offset: its end, if it starts before
unfoldable pub reach_of : ℕ → ℕ → ℕ → ℕ
reach_of start end o = cond (ltb start o) end 0

-- the greatest end of the pairs that start before an offset, 0 if there are none
unfoldable pub reach : List PairLink → ℕ → ℕ
reach [] o = 0
reach (p ∷ ps) o = max (reach ps o) (reach_of p.opening.start p.closing.end o)

-- the code's answers
module _ (start end o : ℕ) where
  pub reach_before : start < o → end ≡ reach_of start end o
  unfolding reach_of
  reach_before h = rw (lt-ltb start o h) refl

  pub reach_behind : o ≤ start → 0 ≡ reach_of start end o
  unfolding reach_of
  reach_behind h = rw (le-ltb start o h) refl

same_test : (a b o : ℕ) → ((a ≤ o → b ≤ o) × (b ≤ o → a ≤ o)) → leb a o ≡ leb b o
same_test a b o s =
    by_bool (leb b o)
    (λ e. le-leb a o (s.1 (leb-true b o e)) ∙ sym e)
    (λ e. by_bool (leb a o) (λ f. absurd (omega (arith, s.0 (leb-true a o f), leb-false b o e))) (λ f. f ∙ sym e))

-- no pair lies across an offset that the reach does not pass
pairs_allow : (ps : List PairLink) (o : ℕ) → leb (reach ps o) o ≡ pairs_allow_cut ps o
unfolding reach pairs_allow_cut
pairs_allow [] o = le-leb 0 o (omega arith)
pairs_allow (p ∷ ps) o =
    let a = p.opening.start in
    let b = p.closing.end in
    by_bool (ltb a o)
    (λ e.
    let q : reach_of a b o ≡ b = sym (reach_before a b o (ltb-true a o e)) in
    by_bool (ltb o b)
    (λ f. let g = ltb-true o b f in rw (e, f, q) (lt-leb (max (reach ps o) b) o (omega arith)))
    (λ f. let g = ltb-false o b f in rw (e, f, q) (same_test (max (reach ps o) b) (reach ps o) o (λ x. omega arith, λ x. omega arith) ∙ pairs_allow ps o)))
    (λ e.
    let q : reach_of a b o ≡ 0 = sym (reach_behind a b o (ltb-false a o e)) in
    rw (e, q) (same_test (max (reach ps o) 0) (reach ps o) o (λ x. omega arith, λ x. omega arith) ∙ pairs_allow ps o))

pub reach_allows : (ps : List PairLink) (o x : ℕ) → x ≡ reach ps o → leb x o ≡ pairs_allow_cut ps o
reach_allows ps o x e = rw e (pairs_allow ps o)

pub reach_rises : (ps : List PairLink) (c k : ℕ) → c ≤ k → reach ps c ≤ reach ps k
unfolding reach reach_of
reach_rises [] c k h = omega arith
reach_rises (p ∷ ps) c k h =
    let a = p.opening.start in
    let r = reach_rises ps c k h in
    by_bool (ltb a c)
    (λ e. rw (e, lt-ltb a k (omega (arith, ltb-true a c e))) (omega (arith, r)))
    (λ e. rw e (omega (arith, r)))

module _ (ps : List PairLink) (c : ℕ) where
  pub reach_free : max c (reach ps c) ≡ c → pairs_allow_cut ps c ≡ true
  reach_free e = sym (pairs_allow ps c) ∙ le-leb (reach ps c) c (omega arith)

  -- where a pair lies across, one lies across every offset up to its end
  pub reach_covers : Refused (pairs_allow_cut ps) c (max c (reach ps c))
  reach_covers = record { fails = λ k a b. sym (pairs_allow ps k) ∙ lt-leb (reach ps k) k (omega (arith, reach_rises ps c k a)) }

-- ---- a walk over the pairs, from the last to the first: those from i on

module _ (t : List ℕ) (r : Run) where
  pub pairs_none : pairs_from t r r.count ≡ []
  pairs_none = let z : r.count - r.count ≡ 0 = omega arith in rw (z, run_none pair_codec t (r.at + 18 * r.count)) refl

  -- the pair before them, numbered j
  pub pairs_more : (i j : ℕ) → j ≡ i - 1 → 0 < i → i ≤ r.count → pairs_from t r j ≡ (record_at pair_codec t (r.at + 18 * j) ∷ pairs_from t r i)
  unfolding pair_codec
  pairs_more i j q l h =
      let n : r.count - j ≡ suc (r.count - i) = omega arith in
      ap (λ (k : ℕ). records_at pair_codec t (r.at + 18 * j) k) n ∙ run_cons pair_codec t (r.count - i) (r.at + 18 * j) (r.at + 18 * i) (omega arith)

  module _ (o : ℕ) where
    pub reach_none : 0 ≡ reach (pairs_from t r r.count) o
    unfolding reach
    reach_none = rw pairs_none refl

    pub reach_more : (x i : ℕ) → x ≡ reach (pairs_from t r i) o → i ≤ r.count → (j : ℕ) → j ≡ i - 1 → 0 < i → (a b : ℕ)
        → a ≡ (record_at pair_codec t (r.at + 18 * j)).opening.start → b ≡ (record_at pair_codec t (r.at + 18 * j)).closing.end
        → (y : ℕ) → y ≡ reach_of a b o → (z : ℕ) → z ≡ max x y → z ≡ reach (pairs_from t r j) o
    unfolding reach
    reach_more x i e h j q l a b f g y s z w = w ∙ rw (pairs_more i j q l h, ← e, ← f, ← g, ← s) refl
