-- The parts of the work words, and what a store does to each. Assumes nothing.
use Rattle.std.specs.Prelude.{◌≡◌, List, ℕ, ◌+◌, ◌-◌, ◌<◌, ◌≤◌, length, take, drop, set, get_or}
use Rattle.std.proofs.Common.{sym, ap, ◌∙◌, arith, length-drop, length-take-le, drop-set-lt, get_or-take, get_or-drop, drop-drop}
use Rattle.std.proofs.Math.Seq.{take-set-lt}
use Rattle.std.proofs.lemmas.List.{take-set-le, drop-set-add}
use Rattle.table.specs.Layout.{part, table_of}

pub length_part : (a e : ℕ) (l : List ℕ) → a ≤ e → e ≤ length l → length (part a e l) ≡ e - a
length_part a e l h k = length-take-le (e - a) (drop a l) (rw length-drop (omega arith))

pub get_d_part : (a e : ℕ) (l : List ℕ) (i d : ℕ) → i < e - a → get_or (part a e l) i d ≡ get_or l (a + i) d
get_d_part a e l i d h = get_or-take (e - a) (drop a l) i d h ∙ get_or-drop a l i d

-- a store inside, before and after a part
pub part_in : (a e : ℕ) (l : List ℕ) (i v : ℕ) → i < e - a → part a e (set l (a + i) v) ≡ set (part a e l) i v
part_in a e l i v h = ap (λ (x : List ℕ). take (e - a) x) (drop-set-add a l i v) ∙ take-set-lt (e - a) (drop a l) i v h

pub part_low : (a e : ℕ) (l : List ℕ) (i v : ℕ) → i < a → part a e (set l i v) ≡ part a e l
part_low a e l i v h = ap (λ (x : List ℕ). take (e - a) x) (drop-set-lt a l i v h)

pub part_high : (a e : ℕ) (l : List ℕ) (i v : ℕ) → a ≤ e → e ≤ i → part a e (set l i v) ≡ part a e l
part_high a e l i v h k =
    let q : a + (i - a) ≡ i = omega arith in
    let r : e - a ≤ i - a = omega arith in
    ap (λ (j : ℕ). part a e (set l j v)) (sym q)
    ∙ ap (λ (x : List ℕ). take (e - a) x) (drop-set-add a l (i - a) v)
    ∙ take-set-le (e - a) (drop a l) (i - a) v r

module _ (n : ℕ) (work : List ℕ) (lo : 256 ≤ n) (hi : n ≤ 4096) (room : 16384 ≤ length work) where
  pub table_length : length (table_of n work) ≡ n
  table_length = length_part (n - 256) (n - 256 + n) work (omega arith) (omega arith) ∙ omega arith

pub drop_part : (a e : ℕ) (l : List ℕ) → a ≤ e → drop (e - a) (drop a l) ≡ drop e l
drop_part a e l h =
    let q : a + (e - a) ≡ e = omega arith in
    drop-drop (e - a) a l ∙ ap (λ (k : ℕ). drop k l) q
