-- Records that are moved where they stand: what is behind those moved so far is read as it was.
use Rattle.std.specs.Prelude.{◌≡◌, ℕ, suc, ◌+◌, ◌*◌, ◌≤◌, ◌<◌, true, length}
use Rattle.std.proofs.Math.Path.{refl, ap, ap₂}
use Rattle.std.proofs.Common.{◌∙◌, arith, mul-zero, add-zero, mul-suc, mul-le-mul_left}
use mathlib.Core.List.{List, [], ◌∷◌, map}
use Rattle.model.specs.Tape.{Operand, Operand.byte, Operand.word, operand_size, value_at, Codec, operands_at, record_at, records_at, record_bytes, records_bytes}
use Rattle.model.specs.Merge.{MergeWindow, Located}
use Rattle.wire.specs.Overwrite.{overwrite, get_d_behind}
use Rattle.wire.specs.Words.{word_at_behind}
use Rattle.splice.specs.Parts.{Kind, PutUpTo, is_in, as_in, part_of, lies_in, part_reading, item_put, put_first, put_last, put_more}
use Rattle.splice.specs.Counted.{reading_room}
use Rattle.splice.specs.declared.Part.TheVariants.{Reading}

module _ (d : List ℕ) (at : ℕ) (bs : List ℕ) (fits : at + length bs ≤ length d) (q : ℕ) (h : at + length bs ≤ q) where
  value_behind : (o : Operand) (k : ℕ) → value_at o (overwrite d at bs) (q + k) ≡ value_at o d (q + k)
  value_behind byte k = get_d_behind d at bs fits (q + k) (omega arith)
  value_behind word k = word_at_behind d at bs fits (q + k) (omega arith)

  operands_behind : (os : List Operand) (k : ℕ) → operands_at os (overwrite d at bs) q k ≡ operands_at os d q k
  unfolding operands_at
  operands_behind [] k = refl
  operands_behind (o ∷ os) k = ap₂ (λ (x : ℕ) (xs : List ℕ). x ∷ xs) (value_behind o k) (operands_behind os (k + operand_size o))

  record_behind : {A : Type 0} (c : Codec A) → record_at c (overwrite d at bs) q ≡ record_at c d q
  unfolding record_at
  record_behind c = ap c.decode (operands_behind c.operands 1)

in_reading : {A : Type 0} (l : Located A) (w : MergeWindow) (x : A) → is_in l w Reading x ≡ true
unfolding is_in lies_in
in_reading l w x = refl

module _ {A : Type 0} {c : Codec A} {l : Located A} {z : ℕ} (k : Kind c l z) (w : MergeWindow) (d : List ℕ) (at : ℕ) where
  pub placed_first : PutUpTo c l w Reading d at d at 0 (at + z * 0) d
  placed_first = rw (mul-zero z, add-zero at) (put_first k w Reading d at d at)

  module _ {i : ℕ} {out : List ℕ} (u : PutUpTo c l w Reading d at d at i (at + z * i) out) where
    pub placed_last : (n : ℕ) → i ≡ n → out ≡ overwrite d at (records_bytes c (map (l.placed w) (records_at c d at n)))
    placed_last n e = put_last k w Reading d at d at u n e ∙ ap (λ (x : List A). overwrite d at (records_bytes c x)) (part_reading l w (records_at c d at n))

    pub placed_more : (n : ℕ) → i < n → at + z * n ≤ length d → {out' : List ℕ} → out' ≡ overwrite out (at + z * i) (record_bytes c (as_in l w Reading (record_at c out (at + z * i))))
        → PutUpTo c l w Reading d at d at (i + 1) (at + z * (i + 1)) out'
    placed_more n h room {out'} e =
        let q = at + z * i in
        let bs = records_bytes c (part_of l w Reading (records_at c d at i)) in
        let fits : at + length bs ≤ length d = omega (arith, u.place, mul-le-mul_left z h, mul-suc z i, room) in
        let r : record_at c out q ≡ record_at c d q = ap (λ (x : List ℕ). record_at c x q) u.wrote.is ∙ record_behind d at bs fits q (omega (arith, u.place)) c in
        let p = item_put k w Reading d q out q (in_reading l w (record_at c d q)) e (ap (λ (x : A). record_bytes c (as_in l w Reading x)) r) in
        let s : i + 1 ≡ suc i = omega arith in
        let next : at + z * (i + 1) ≡ q + z = rw s (omega (arith, mul-suc z i)) in
        put_more k w Reading d at d at u n h (reading_room c l w d at n at z (length d) room) q refl (next ∙ p.0) p.1
