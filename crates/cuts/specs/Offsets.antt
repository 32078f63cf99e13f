-- The first and the last offset that passes a test: an offset is the answer if it passes and all before it, or behind it, fail.
use Prim.Native.Nat.{ℕ, zero, suc, ◌+◌, ◌-◌, ◌≤◌, ◌<◌}
use native.Mathlib.Omega.{arith}
use Rattle.std.specs.Prelude.{◌⊎◌, ◌≡◌, Bool, cond, ltb, eqb}
use Rattle.std.proofs.Math.Logic.{inl, inr}
use Rattle.std.proofs.Common.{⊎_elim}
use Rattle.std.proofs.Math.Path.{refl, sym}
use Rattle.std.proofs.Math.Bool.{true, false}
use borrow.Author.Tests.{ltb-true, ltb-false, eqb-true, eqb-false}
use Rattle.facts.specs.Truth.{by_bool}

-- of the n offsets before hi the first that passes, else hi
unfoldable pub first_in : (ℕ → Bool) → ℕ → ℕ → ℕ
first_in P zero hi = hi
first_in P (suc n) hi = let later = first_in P n hi in cond (P (hi - suc n)) (hi - suc n) later

-- of the n offsets from lo on the last that passes, else d
unfoldable pub last_from : (ℕ → Bool) → ℕ → ℕ → ℕ → ℕ
last_from P zero lo d = d
last_from P (suc n) lo d = let earlier = last_from P n lo d in cond (P (lo + n)) (lo + n) earlier

-- none from lo on and before hi passes
pub record Refused (P : ℕ → Bool) (lo hi : ℕ) : Type 0 where
  pub fails : (k : ℕ) → lo ≤ k → k < hi → P k ≡ false

module _ {P : ℕ → Bool} where
  pub refused_none : (lo hi : ℕ) → hi ≤ lo → Refused P lo hi
  refused_none lo hi h = record { fails = λ k a b. absurd (omega arith) }

  pub refused_join : {lo mid hi : ℕ} → Refused P lo mid → Refused P mid hi → Refused P lo hi
  refused_join {lo} {mid} {hi} r s = record {
    fails = λ k a b. by_bool (ltb k mid) (λ e. r.fails k a (ltb-true k mid e)) (λ e. s.fails k (ltb-false k mid e) b);
  }

  pub refused_part : {lo hi : ℕ} → Refused P lo hi → (a b : ℕ) → lo ≤ a → b ≤ hi → Refused P a b
  refused_part r a b h g = record { fails = λ k x y. r.fails k (omega arith) (omega arith) }

  pub refused_one : (lo hi : ℕ) → hi ≤ lo + 1 → P lo ≡ false → Refused P lo hi
  refused_one lo hi h e = record { fails = λ k a b. let q : k ≡ lo = omega arith in rw q e }

-- ---- the first

pub record First (P : ℕ → Bool) (lo hi r : ℕ) : Type 0 where
  pub from : lo ≤ r
  pub to : r ≤ hi
  pub before : Refused P lo r
  pub passes : r < hi → P r ≡ true

module _ (P : ℕ → Bool) where
  pub first_is : (n : ℕ) {lo hi r : ℕ} → lo + n ≡ hi → First P lo hi r → first_in P n hi ≡ r
  unfolding first_in
  first_is zero {lo} {hi} {r} e f = omega (arith, f.from, f.to)
  first_is (suc n) {lo} {hi} {r} e f =
      let q : hi - suc n ≡ lo = omega arith in
      rw q (by_bool (eqb lo r)
      (λ t.
      let s = eqb-true lo r t in
      let p : P lo ≡ true = rw s (f.passes (omega (arith, f.from, f.to))) in
      rw p s)
      (λ t.
      let ne = eqb-false lo r t in
      let p : P lo ≡ false = f.before.fails lo (omega arith) (omega (arith, ne, f.from)) in
      rw p (first_is n {lo = lo + 1} (omega arith) (record {
        from = omega (arith, ne, f.from);
        to = f.to;
        before = refused_part f.before (lo + 1) r (omega arith) (omega arith);
        passes = f.passes;
      }))))

  pub first_none : (hi : ℕ) → hi ≡ first_in P 0 hi
  unfolding first_in
  first_none hi = refl

  pub first_of : (n : ℕ) {lo hi : ℕ} → lo + n ≡ hi → First P lo hi (first_in P n hi)
  unfolding first_in
  first_of zero {lo} {hi} e = record { from = omega arith; to = omega arith; before = refused_none lo hi (omega arith); passes = λ h. absurd (omega arith) }
  first_of (suc n) {lo} {hi} e =
      let q : hi - suc n ≡ lo = omega arith in
      let rest = first_of n {lo = lo + 1} {hi = hi} (omega arith) in
      rw q (by_bool (P lo)
      (λ t. rw t (record { from = omega arith; to = omega arith; before = refused_none lo lo (omega arith); passes = λ h. t }))
      (λ t. rw t (record {
        from = omega (arith, rest.from);
        to = rest.to;
        before = refused_join (refused_one lo (lo + 1) (omega arith) t) rest.before;
        passes = rest.passes;
      })))

-- ---- the last

-- the offset r among those from lo on and before hi, or d if none passes
abbrev pub LastOr : (ℕ → Bool) → ℕ → ℕ → ℕ → ℕ → Type 0
LastOr P lo hi d r = ((lo ≤ r) × (r < hi) × (P r ≡ true) × Refused P (r + 1) hi) ⊎ ((r ≡ d) × Refused P lo hi)

module _ (P : ℕ → Bool) where
  pub last_or : (n lo d : ℕ) → LastOr P lo (lo + n) d (last_from P n lo d)
  unfolding last_from
  last_or zero lo d = inr (refl, refused_none lo (lo + 0) (omega arith))
  last_or (suc n) lo d =
      by_bool (P (lo + n))
      (λ t. rw t (inl (omega arith, omega arith, t, refused_none (lo + n + 1) (lo + suc n) (omega arith))))
      (λ t. rw t (more (refused_one (lo + n) (lo + suc n) (omega arith) t) (last_or n lo d)))
    where
      more : Refused P (lo + n) (lo + suc n) → {r : ℕ} → LastOr P lo (lo + n) d r → LastOr P lo (lo + suc n) d r
      more one (inl (a, b, p, f)) = inl (a, omega arith, p, refused_join f one)
      more one (inr (e, f)) = inr (e, refused_join f one)

  -- there is one such offset
  pub last_is : (n lo d r : ℕ) → LastOr P lo (lo + n) d r → last_from P n lo d ≡ r
  unfolding last_from
  last_is zero lo d r (inl (a, b, p, f)) = absurd (omega arith)
  last_is zero lo d r (inr (e, f)) = sym e
  last_is (suc n) lo d r (inl (a, b, p, f)) =
      by_bool (eqb (lo + n) r)
      (λ t. let e = eqb-true (lo + n) r t in let q : P (lo + n) ≡ true = rw e p in rw q e)
      (λ t.
      let ne = eqb-false (lo + n) r t in
      let q : P (lo + n) ≡ false = f.fails (lo + n) (omega (arith, ne)) (omega arith) in
      rw q (last_is n lo d r (inl (a, omega (arith, ne), p, refused_part f (r + 1) (lo + n) (omega arith) (omega arith)))))
  last_is (suc n) lo d r (inr (e, f)) =
      let q : P (lo + n) ≡ false = f.fails (lo + n) (omega arith) (omega arith) in
      rw q (last_is n lo d r (inr (e, refused_part f lo (lo + n) (omega arith) (omega arith))))

  -- the scan downwards: c offsets are left
  pub last_turn : (lo c d : ℕ) → lo < c → P (c - 1) ≡ false → last_from P (c - lo) lo d ≡ last_from P (c - 1 - lo) lo d
  unfolding last_from
  last_turn lo c d h e =
      let q : c - lo ≡ suc (c - 1 - lo) = omega arith in
      let s : lo + (c - 1 - lo) ≡ c - 1 = omega arith in
      rw (q, s, e) refl

  pub last_stop : (lo c d : ℕ) → lo < c → P (c - 1) ≡ true → last_from P (c - lo) lo d ≡ c - 1
  unfolding last_from
  last_stop lo c d h e =
      let q : c - lo ≡ suc (c - 1 - lo) = omega arith in
      let s : lo + (c - 1 - lo) ≡ c - 1 = omega arith in
      rw (q, s, e) refl

  pub last_done : (lo c d : ℕ) → c ≤ lo → last_from P (c - lo) lo d ≡ d
  unfolding last_from
  last_done lo c d h = let q : c - lo ≡ 0 = omega arith in rw q refl

-- the last that passes of those before `from`, 0 if none
pub record Latest (P : ℕ → Bool) (from r : ℕ) : Type 0 where
  pub passes : (r ≡ 0) ⊎ (P r ≡ true)
  pub behind : Refused P (r + 1) from

pub latest_none : (P : ℕ → Bool) → Latest P 0 0
latest_none P = record { passes = inl refl; behind = refused_none 1 0 (omega arith) }

-- of the offsets 1 to n
module _ (P : ℕ → Bool) where
  pub latest_is : (n r : ℕ) → r ≤ n → Latest P (n + 1) r → last_from P n 1 0 ≡ r
  unfolding last_from
  latest_is zero r h l = omega arith
  latest_is (suc n) r h l =
      by_bool (eqb (1 + n) r)
      (λ t. let e = eqb-true (1 + n) r t in let p : P (1 + n) ≡ true = rw e (⊎_elim (λ (z : r ≡ 0). absurd (omega arith)) (λ (z : P r ≡ true). z) l.passes) in rw p e)
      (λ t.
      let ne = eqb-false (1 + n) r t in
      let p : P (1 + n) ≡ false = l.behind.fails (1 + n) (omega (arith, ne)) (omega arith) in
      rw p (latest_is n r (omega (arith, ne)) (record { passes = l.passes; behind = refused_part l.behind (r + 1) (n + 1) (omega arith) (omega arith) })))

  pub latest_of : (n : ℕ) → Latest P (n + 1) (last_from P n 1 0) × (last_from P n 1 0 ≤ n)
  latest_of n = go (last_or P n 1 0)
    where
      go : {r : ℕ} → LastOr P 1 (1 + n) 0 r → Latest P (n + 1) r × (r ≤ n)
      go (inl (a, b, p, f)) = (record { passes = inr p; behind = refused_part f _ (n + 1) (omega arith) (omega arith) }, omega arith)
      go (inr (e, f)) = (record { passes = inl e; behind = refused_part f _ (n + 1) (omega arith) (omega arith) }, omega arith)
