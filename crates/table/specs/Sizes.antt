-- How many slots a table has, and when it doubles. Assumes nothing.
use Rattle.std.specs.Prelude.{◌≡◌, refl, Bool, true, false, cond, not, ◌&&◌, List, ℕ, ◌+◌, ◌-◌, ◌*◌, ◌<◌, ◌≤◌, eqb, leb, length}
use Rattle.std.proofs.Common.{ap, subst, arith, ne_eqb, leb-true, leb-false, lit≤}
use Rattle.model.specs.Limits.{load_factor_numerator, load_factor_denominator}
use Rattle.facts.specs.Truth.{both}
use Rattle.table.specs.Layout.{table_of, starts_of, strings_up_to, strings_of, Work}
use Rattle.table.specs.Views.{table_length}
use Rattle.table.specs.Wide.{starts_number}

-- how many slots a table has: none before its first use
pub data Size : ℕ → Type 0 where
  none : Size 0
  size256 : Size 256
  size512 : Size 512
  size1024 : Size 1024
  size2048 : Size 2048
  size4096 : Size 4096

-- is a table of so many slots, of which so many are taken, to double?
abbrev pub is_due : ℕ → ℕ → Bool
is_due slots occupied = not (eqb slots 0) && leb (slots * load_factor_numerator) (occupied * load_factor_denominator)

pub size_hi : {n : ℕ} → Size n → n ≤ 4096
size_hi none = lit≤ tt
size_hi size256 = lit≤ tt
size_hi size512 = lit≤ tt
size_hi size1024 = lit≤ tt
size_hi size2048 = lit≤ tt
size_hi size4096 = lit≤ tt

pub size_lo : {n : ℕ} → Size n → (n ≡ 0 → ⊥) → 256 ≤ n
size_lo none ne = absurd (ne refl)
size_lo size256 ne = lit≤ tt
size_lo size512 ne = lit≤ tt
size_lo size1024 ne = lit≤ tt
size_lo size2048 ne = lit≤ tt
size_lo size4096 ne = lit≤ tt

-- a table that is due to grow has 2048 slots at most, since few enough are taken
pub size_grows : {n : ℕ} → Size n → (k : ℕ) → k ≤ 3583 → n * 7 ≤ k * 8 → n ≤ 2048
size_grows none k h g = lit≤ tt
size_grows size256 k h g = lit≤ tt
size_grows size512 k h g = lit≤ tt
size_grows size1024 k h g = lit≤ tt
size_grows size2048 k h g = lit≤ tt
size_grows size4096 k h g = absurd (omega arith)

pub size_double : {n : ℕ} → Size n → (n ≡ 0 → ⊥) → n ≤ 2048 → Size (n * 2)
size_double none ne h = absurd (ne refl)
size_double size256 ne h = size512
size_double size512 ne h = size1024
size_double size1024 ne h = size2048
size_double size2048 ne h = size4096
size_double size4096 ne h = absurd (omega arith)

pub size_length : {n : ℕ} (work : List ℕ) → Size n → 16384 ≤ length work → length (table_of n work) ≡ n
size_length work none r = refl
size_length work size256 r = table_length 256 work (lit≤ tt) (lit≤ tt) r
size_length work size512 r = table_length 512 work (lit≤ tt) (lit≤ tt) r
size_length work size1024 r = table_length 1024 work (lit≤ tt) (lit≤ tt) r
size_length work size2048 r = table_length 2048 work (lit≤ tt) (lit≤ tt) r
size_length work size4096 r = table_length 4096 work (lit≤ tt) (lit≤ tt) r

pub starts_length : (work : List ℕ) (size count : ℕ) → Work work size count → length (starts_of count work) ≡ count + 1
starts_length work size count w =
    let a = w.room in
    let b = w.few in
    starts_number work count (omega arith)

-- the strings by the number of starts are the strings by their number
pub strings_all : (work strs : List ℕ) (size count : ℕ) → Work work size count → strings_of (starts_of count work) strs ≡ strings_up_to count (starts_of count work) strs
strings_all work strs size count w =
    let q : length (starts_of count work) - 1 ≡ count = omega (arith, starts_length work size count w) in
    ap (λ (n : ℕ). strings_up_to n (starts_of count work) strs) q

-- ---- tests on a table are tests on its length

pub due_full : (n k : ℕ) → is_due n k ≡ true → n * 7 ≤ k * 8
due_full n k e = leb-true _ _ (both (not (eqb n 0)) (leb (n * 7) (k * 8)) e).1

pub due_not : (n k : ℕ) → is_due n k ≡ false → (n ≡ 0 → ⊥) → k * 8 < n * 7
due_not n k e ne = leb-false _ _ (subst (λ (b : Bool). (not b && leb (n * 7) (k * 8)) ≡ false) (ne_eqb n 0 ne) e)

pub one_or_none : (b : Bool) → cond b 1 0 ≤ 1
one_or_none true = lit≤ tt
one_or_none false = lit≤ tt

-- a table has one size
pub Size-prop : {n : ℕ} → IsProp (Size n)
Size-prop none none = refl
Size-prop size256 size256 = refl
Size-prop size512 size512 = refl
Size-prop size1024 size1024 = refl
Size-prop size2048 size2048 = refl
Size-prop size4096 size4096 = refl
