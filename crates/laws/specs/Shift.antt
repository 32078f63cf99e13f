-- Section 1: offsets moved by a difference of two numbers where neither end of the 32 bits is met, so that `shift_u32` has an
-- answer wherever the merge asks.
use Rattle.std.specs.Prelude.{◌≡◌, refl, ℕ, suc, ◌+◌, ◌-◌, ◌^◌, ◌≤◌, min, Bool, true, false, cond, ◌&&◌, ltb, ℤ, pos, negsuc, ◌+ℤ◌}
use Rattle.std.proofs.Common.{ap, arith, ltb-true, ltb-false, le-leb, le-ltb, lt-ltb}
use Rattle.std.proofs.Math.Option.{none, some, get_or}
use Rattle.std.proofs.Math.IntN.{sub_ℕ}
use Rattle.std.specs.Int.Signed.{le_z}
use Rattle.std.proofs.lemmas.Bool.{lt-leb}
use Rattle.model.specs.Offset.{min_i64, max_i64, max_u32, saturating_add, clamp_u32, shift_clamp, shift_u32}
use Rattle.model.specs.Merge.{moved_offset}
use Rattle.laws.specs.Fits.{is_word}

pub add_sub : (o p q : ℕ) → q ≤ o + p → sub_ℕ p q +ℤ pos o ≡ pos (o + p - q)
add_sub o p q h = go (ltb p q) refl
  where
    go : (t : Bool) → ltb p q ≡ t → cond t (negsuc (q - suc p)) (pos (p - q)) +ℤ pos o ≡ pos (o + p - q)
    go true e =
        let l = ltb-true p q e in
        rw (le-ltb o (suc (q - suc p)) (omega arith)) (ap pos (omega arith))
    go false e = let l = ltb-false p q e in ap pos (omega arith)

inside : (n : ℕ) → n ≤ 4294967295 → clamp_u32 (cond (le_z (pos n) (negsuc (2 ^ 63 - 1))) (negsuc (2 ^ 63 - 1)) (cond (le_z (pos (2 ^ 63 - 1)) (pos n)) (pos (2 ^ 63 - 1)) (pos n))) ≡ n
unfolding clamp_u32
inside n h = rw (lt-leb (2 ^ 63 - 1) n (omega arith)) (omega arith)

pub shift_up : (o p : ℕ) → o + p ≤ 4294967295 → shift_clamp o (pos p) ≡ o + p
unfolding shift_clamp saturating_add
shift_up o p h = let e : p + o ≡ o + p = omega arith in rw e (inside (o + p) h)

pub shift_by : (o p q : ℕ) → q ≤ o + p → o + p - q ≤ 4294967295 → shift_clamp o (sub_ℕ p q) ≡ o + p - q
unfolding shift_clamp saturating_add
shift_by o p q h k = rw (add_sub o p q h) (inside (o + p - q) k)

pub offset_by : (o p q : ℕ) → q ≤ o + p → o + p - q ≤ 4294967295 → moved_offset o (sub_ℕ p q) ≡ o + p - q
unfolding moved_offset shift_u32 clamp_u32
offset_by o p q h k =
    rw (add_sub o p q h, le-leb (o + p - q) (2 ^ 63 - 1) (omega arith), le-leb 0 (o + p - q) (omega arith), le-leb (o + p - q) 4294967295 k) (omega arith)

-- there is an answer, and it is that number
pub shift_answers : (o p q : ℕ) → q ≤ o + p → o + p - q ≤ 4294967295 → shift_u32 o (sub_ℕ p q) ≡ some (moved_offset o (sub_ℕ p q))
unfolding moved_offset shift_u32
shift_answers o p q h k = rw (add_sub o p q h, le-leb (o + p - q) (2 ^ 63 - 1) (omega arith), le-leb 0 (o + p - q) (omega arith), le-leb (o + p - q) 4294967295 k)

-- ---- a moved number fits a word, clamped or not

clamp_small : (z : ℤ) → is_word (clamp_u32 z) ≡ true
unfolding clamp_u32
clamp_small (pos n) = lt-ltb (min n max_u32) 4294967296 (omega arith)
clamp_small (negsuc n) = refl

pub shift_small : (o : ℕ) (by : ℤ) → is_word (shift_clamp o by) ≡ true
unfolding shift_clamp
shift_small o by = clamp_small (saturating_add by (pos o))

pub moved_small : (o : ℕ) (by : ℤ) → is_word (moved_offset o by) ≡ true
unfolding moved_offset shift_u32
moved_small o by = go (le_z min_i64 (by +ℤ pos o) && le_z (by +ℤ pos o) max_i64 && le_z (pos 0) (by +ℤ pos o) && le_z (by +ℤ pos o) (pos max_u32))
  where
    go : (t : Bool) → is_word (get_or (cond t (some (clamp_u32 (by +ℤ pos o))) none) 0) ≡ true
    go true = clamp_small (by +ℤ pos o)
    go false = refl
