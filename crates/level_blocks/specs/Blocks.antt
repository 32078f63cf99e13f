-- A table of levels: for each block of 16 items a level that they are below, 255 where none is known, and above these the greatest of each 16
-- entries: entry 65536 + i / 16 is above entry i.
use Rattle.std.specs.Prelude.{◌≡◌, refl, ℕ, ◌+◌, ◌*◌, ◌-◌, ◌/◌, ◌≤◌, ◌<◌, List, length, get_or, set, ltb, eqb}
use Rattle.std.proofs.Common.{◌∙◌, arith, length-set, get_or-set_same, get_or-set_other, ltb-true, ltb-false, eqb-true}
use Rattle.std.proofs.lemmas.Bool.{eqb-false}
use Rattle.facts.specs.Truth.{by_bool}

-- ---- what a table says

-- the entry of item j's block is at most the level
pub record Says (table : List ℕ) (level j : ℕ) : Type 0 where
  pub inside : j < 1048576
  pub low : get_or table (j / 16) 0 ≤ level
  pub known : level < 255

-- it says so of all items from i up to r
pub record Skips (table : List ℕ) (level i r : ℕ) : Type 0 where
  pub on : i ≤ r
  pub says : (j : ℕ) → i ≤ j → j < r → Says table level j

-- entries below n are at least those that they are above
pub record Risen (table : List ℕ) (n : ℕ) : Type 0 where
  pub size : length table ≡ 69904
  pub up : (i : ℕ) → 65536 + i / 16 < n → get_or table i 0 ≤ get_or table (65536 + i / 16) 0

-- ---- the ends of blocks

pub skips_none : (table : List ℕ) (level i : ℕ) → Skips table level i i
skips_none table level i = record { on = omega arith; says = λ j a b. absurd (omega (arith, a, b)) }

module _ {table : List ℕ} (w : Risen table 69904) (level i : ℕ) (l : level ≤ 254) (h : i ≤ 1048575) where
  pub skips_16 : get_or table (i / 16) 0 ≤ level → Skips table level i (16 * (i / 16) + 16)
  skips_16 e = record {
    on = omega arith;
    says = λ j a b.
        let q : j / 16 ≡ i / 16 = omega (arith, a, b) in
        record { inside = omega (arith, a, b, h); low = rw q e; known = omega (arith, l) };
  }

  pub skips_256 : get_or table (65536 + i / 16 / 16) 0 ≤ level → Skips table level i (256 * (i / 16 / 16) + 256)
  skips_256 e = record {
    on = omega arith;
    says = λ j a b.
        let q : j / 16 / 16 ≡ i / 16 / 16 = omega (arith, a, b) in
        let s = w.up (j / 16) (omega (arith, a, b, h)) in
        let x : get_or table (65536 + j / 16 / 16) 0 ≤ level = rw q e in
        record { inside = omega (arith, a, b, h); low = omega (arith, s, x); known = omega (arith, l) };
  }

  pub skips_4096 : get_or table (65536 + (65536 + i / 16 / 16) / 16) 0 ≤ level → Skips table level i (4096 * (i / 4096) + 4096)
  skips_4096 e = record {
    on = omega arith;
    says = λ j a b.
        let q : (65536 + j / 16 / 16) / 16 ≡ (65536 + i / 16 / 16) / 16 = omega (arith, a, b) in
        let s = w.up (j / 16) (omega (arith, a, b, h)) in
        let u = w.up (65536 + j / 16 / 16) (omega (arith, a, b, h)) in
        let x : get_or table (65536 + (65536 + j / 16 / 16) / 16) 0 ≤ level = rw q e in
        record { inside = omega (arith, a, b, h); low = omega (arith, s, u, x); known = omega (arith, l) };
  }

  pub skips_65536 : get_or table (65536 + (65536 + (65536 + i / 16 / 16) / 16) / 16) 0 ≤ level → Skips table level i (65536 * (i / 65536) + 65536)
  skips_65536 e = record {
    on = omega arith;
    says = λ j a b.
        let q : (65536 + (65536 + j / 16 / 16) / 16) / 16 ≡ (65536 + (65536 + i / 16 / 16) / 16) / 16 = omega (arith, a, b) in
        let s = w.up (j / 16) (omega (arith, a, b, h)) in
        let u = w.up (65536 + j / 16 / 16) (omega (arith, a, b, h)) in
        let v = w.up (65536 + (65536 + j / 16 / 16) / 16) (omega (arith, a, b, h)) in
        let x : get_or table (65536 + (65536 + (65536 + j / 16 / 16) / 16) / 16) 0 ≤ level = rw q e in
        record { inside = omega (arith, a, b, h); low = omega (arith, s, u, v, x); known = omega (arith, l) };
  }

-- ---- the entries above

-- no entry of n from `from` on is above r
pub record Greatest (table : List ℕ) (from n r : ℕ) : Type 0 where
  pub most : (i : ℕ) → i < n → get_or table (from + i) 0 ≤ r

pub greatest_none : (table : List ℕ) (from r : ℕ) → Greatest table from 0 r
greatest_none table from r = record { most = λ i h. absurd (omega (arith, h)) }

pub greatest_more : {table : List ℕ} {from n m r : ℕ} → Greatest table from n m → m ≤ r → get_or table (from + n) 0 ≤ r → Greatest table from (n + 1) r
greatest_more {table} {from} {n} w h e = record {
  most = λ i l.
      by_bool (ltb i n) (λ x. let y = w.most i (ltb-true i n x) in omega (arith, y, h)) (λ x. let q : i ≡ n = let y = ltb-false i n x in omega (arith, y, l) in rw q e);
}

-- the entries of blocks are as they were
pub record Kept (d l : List ℕ) : Type 0 where
  pub kept : (i : ℕ) → i < 65536 → get_or l i 0 ≡ get_or d i 0

pub kept_all : (d : List ℕ) → Kept d d
kept_all d = record { kept = λ i h. refl }

pub kept_set : {d l : List ℕ} → Kept d l → (k r : ℕ) → 65536 ≤ k → Kept d (set l k r)
kept_set {d} {l} w k r h = record { kept = λ i a. get_or-set_other l k i r 0 (λ e. let z : ⊥ = omega (arith, a, h, e) in z) ∙ w.kept i a }

pub risen_none : (table : List ℕ) → length table ≡ 69904 → Risen table 65536
risen_none table e = record { size = e; up = λ i h. absurd (omega (arith, h)) }

pub risen_more : {table : List ℕ} {k : ℕ} → Risen table k → 65536 ≤ k → k < 69904 → (r : ℕ) → Greatest table (16 * (k - 65536)) 16 r → Risen (set table k r) (k + 1)
risen_more {table} {k} w a b r g = record {
  size = length-set table k r ∙ w.size;
  up = λ i h.
      let other : get_or (set table k r) i 0 ≡ get_or table i 0 = get_or-set_other table k i r 0 (λ e. let z : ⊥ = omega (arith, e, h, b) in z) in
      by_bool (eqb (65536 + i / 16) k)
      (λ e. let q = eqb-true (65536 + i / 16) k e in
      let s = w.size in
      let top : get_or (set table k r) (65536 + i / 16) 0 ≡ r = rw q (get_or-set_same table k r 0 (omega (arith, s, b))) in
      let p : 16 * (k - 65536) + (i - 16 * (k - 65536)) ≡ i = omega (arith, q) in
      let m : get_or table i 0 ≤ r = rw p at (g.most (i - 16 * (k - 65536)) (omega (arith, q))) in
      omega (arith, other, top, m))
      (λ e. let n = eqb-false (65536 + i / 16) k e in
      let top = get_or-set_other table k (65536 + i / 16) r 0 n in
      let l : 65536 + i / 16 < k = by_bool (ltb (65536 + i / 16) k) (λ u. ltb-true (65536 + i / 16) k u) (λ u. absurd (n (let f = ltb-false (65536 + i / 16) k u in omega (arith, f, h)))) in
      let m = w.up i l in
      omega (arith, other, top, m));
}
