-- Laws of `word_at` and `word_bytes`.
use Rattle.std.specs.Prelude.{ℕ, ◌+◌, ◌%◌, ◌≤◌, ◌<◌, ◌^◌, ◌≡◌, List, ◌++◌, length, drop}
use Rattle.std.proofs.Math.Path.{refl}
use Rattle.std.proofs.Common.{sym, ap, ◌∙◌, arith, add-zero, get_or-drop}
use Rattle.std.proofs.Math.Nat.{add_assoc}
use Rattle.std.proofs.Math.ListN.{get_or-eq_default, get_or-append}
use Rattle.std.proofs.Math.Seq.{get_or-append-add}
use Rattle.model.specs.Bytes.{byte_at, word_at, word_bytes}
use Rattle.facts.specs.Words.{word_digits}
use Rattle.wire.specs.Overwrite.{overwrite, get_d_overwrite, get_d_before, get_d_behind}

-- past the end there are bytes 0
pub word_at_past : (s : List ℕ) (at : ℕ) → length s ≤ at → word_at s at ≡ 0
unfolding word_at
word_at_past s at h =
    rw (
      get_or-eq_default s 0 {n = at} h,
      get_or-eq_default s 0 {n = at + 1} (omega arith),
      get_or-eq_default s 0 {n = at + 2} (omega arith),
      get_or-eq_default s 0 {n = at + 3} (omega arith),
    )
    refl

-- a word that was written is read again
pub word_at_overwrite : (d : List ℕ) (at v : ℕ) → at + 4 ≤ length d → v < 2 ^ 32 → word_at (overwrite d at (word_bytes v)) at ≡ v
unfolding word_at word_bytes
word_at_overwrite d at v h b =
    let read : (i : ℕ) → i < 4 → byte_at (overwrite d at (word_bytes v)) (at + i) ≡ byte_at (word_bytes v) i = get_d_overwrite d at (word_bytes v) h in
    let e0 : byte_at (overwrite d at (word_bytes v)) at ≡ v % 256 = ap (λ (k : ℕ). byte_at (overwrite d at (word_bytes v)) k) (sym (add-zero at)) ∙ read 0 (omega arith) in
    rw (e0, read 1 (omega arith), read 2 (omega arith), read 3 (omega arith)) (word_digits v b)

-- a word that another write leaves alone, before it and behind it, or that lies within it
module _ (d : List ℕ) (at : ℕ) (bs : List ℕ) (fits : at + length bs ≤ length d) where
  pub word_at_before : (p : ℕ) → p + 4 ≤ at → word_at (overwrite d at bs) p ≡ word_at d p
  unfolding word_at
  word_at_before p h =
      rw (
        get_d_before d at bs fits p (omega arith),
        get_d_before d at bs fits (p + 1) (omega arith),
        get_d_before d at bs fits (p + 2) (omega arith),
        get_d_before d at bs fits (p + 3) (omega arith),
      )
      refl

  pub word_at_behind : (p : ℕ) → at + length bs ≤ p → word_at (overwrite d at bs) p ≡ word_at d p
  unfolding word_at
  word_at_behind p h =
      rw (
        get_d_behind d at bs fits p (omega arith),
        get_d_behind d at bs fits (p + 1) (omega arith),
        get_d_behind d at bs fits (p + 2) (omega arith),
        get_d_behind d at bs fits (p + 3) (omega arith),
      )
      refl

  pub word_at_within : (p : ℕ) → p + 4 ≤ length bs → word_at (overwrite d at bs) (at + p) ≡ word_at bs p
  unfolding word_at
  word_at_within p h =
      rw (
        add_assoc at p 1,
        add_assoc at p 2,
        add_assoc at p 3,
        get_d_overwrite d at bs fits p (omega arith),
        get_d_overwrite d at bs fits (p + 1) (omega arith),
        get_d_overwrite d at bs fits (p + 2) (omega arith),
        get_d_overwrite d at bs fits (p + 3) (omega arith),
      )
      refl

-- a word of a list that is joined of two, and of what is left of a list
module _ (xs ys : List ℕ) where
  pub word_at_left : (p : ℕ) → p + 4 ≤ length xs → word_at (xs ++ ys) p ≡ word_at xs p
  unfolding word_at
  word_at_left p h =
      rw (
        get_or-append xs ys 0 p (omega arith),
        get_or-append xs ys 0 (p + 1) (omega arith),
        get_or-append xs ys 0 (p + 2) (omega arith),
        get_or-append xs ys 0 (p + 3) (omega arith),
      )
      refl

  pub word_at_right : (p : ℕ) → word_at (xs ++ ys) (length xs + p) ≡ word_at ys p
  unfolding word_at
  word_at_right p =
      rw (
        add_assoc (length xs) p 1,
        add_assoc (length xs) p 2,
        add_assoc (length xs) p 3,
        get_or-append-add xs ys p 0,
        get_or-append-add xs ys (p + 1) 0,
        get_or-append-add xs ys (p + 2) 0,
        get_or-append-add xs ys (p + 3) 0,
      )
      refl

pub word_at_drop : (s : List ℕ) (n p : ℕ) → word_at (drop n s) p ≡ word_at s (n + p)
unfolding word_at
word_at_drop s n p =
    rw (
      add_assoc n p 1,
      add_assoc n p 2,
      add_assoc n p 3,
      get_or-drop n s p 0,
      get_or-drop n s (p + 1) 0,
      get_or-drop n s (p + 2) 0,
      get_or-drop n s (p + 3) 0,
    )
    refl

-- the word of four bytes at the start of a list
pub word_at_word_bytes : (v : ℕ) (rest : List ℕ) → v < 2 ^ 32 → word_at (word_bytes v ++ rest) 0 ≡ v
unfolding word_at word_bytes
word_at_word_bytes v rest b = word_digits v b
