-- A write into a buffer, and its laws. A caller's proof cites these and never unfolds `overwrite`.
use Rattle.std.specs.Prelude.{ℕ, suc, ◌+◌, ◌-◌, ◌≤◌, ◌<◌, zero, ◌≡◌, take, set}
use Rattle.std.proofs.Math.Path.{refl, sym, ap}
use Rattle.std.proofs.Common.{◌∙◌, add-one, zero-add, add-zero, add_assoc, length-drop, take-append-drop, take-suc}
use mathlib.Core.List.{List, [], ◌∷◌, ◌++◌, append_assoc, append-nil}
use native.Mathlib.Omega.{arith}
use Rattle.std.proofs.Math.Nat.{sub-zero, zero-sub, suc-sub-suc}
use Rattle.std.proofs.Math.ListN.{length, drop, get_or, length-append, get_or-append}
use Rattle.std.proofs.lemmas.List.{length-replicate, replicate-append-replicate}
use Rattle.std.proofs.lemmas.List.Edits.{sets-eq}
use Rattle.std.proofs.Math.Seq.{length-take-le, take_at, drop_at, drop-drop, drop-append-add, get_or-append-add, get_or-take, get_or-drop, drop-length}
use Rattle.model.specs.Bytes.{zeros}
use Rattle.facts.specs.Lists.{head_length}

-- `d` with the elements `bs` in place of as many from index `at`
unfoldable pub overwrite : List ℕ → ℕ → List ℕ → List ℕ
overwrite d at bs = take at d ++ bs ++ drop (at + length bs) d

-- `bs`, and zeros up to n elements
abbrev pub padded : ℕ → List ℕ → List ℕ
padded n bs = bs ++ zeros (n - length bs)

module _ (d : List ℕ) (at : ℕ) (bs : List ℕ) (fits : at + length bs ≤ length d) where
  head : length (take at d ++ bs) ≡ at + length bs
  head = head_length d at bs (omega (arith, fits))

  pub length_overwrite : length (overwrite d at bs) ≡ length d
  unfolding overwrite
  length_overwrite = rw (length-append, head, length-drop) (omega arith)

  pub take_overwrite : take (at + length bs) (overwrite d at bs) ≡ take at d ++ bs
  unfolding overwrite
  take_overwrite = take_at (take at d ++ bs) (drop (at + length bs) d) (at + length bs) head

  pub drop_overwrite : drop (at + length bs) (overwrite d at bs) ≡ drop (at + length bs) d
  unfolding overwrite
  drop_overwrite = drop_at (take at d ++ bs) (drop (at + length bs) d) (at + length bs) head

  -- a second write right behind the first, at the index `n` that the code has: one write of both
  pub overwrite_next : (n : ℕ) (cs : List ℕ) → n ≡ at + length bs → n + length cs ≤ length d
      → overwrite (overwrite d at bs) n cs ≡ overwrite d at (bs ++ cs)
  unfolding overwrite
  overwrite_next n cs e h =
      let x : length (take at d ++ bs) ≡ n = head ∙ sym e in
      let rest : drop (n + length cs) (take at d ++ bs ++ drop (at + length bs) d) ≡ drop (at + length (bs ++ cs)) d
      = rw (← x, drop-append-add, drop-drop, length-append, add_assoc) refl in
      rw (take_at (take at d ++ bs) (drop (at + length bs) d) n x, rest) (simp append_assoc)

  -- what is read again: in the write, before it, behind it
  pub get_d_overwrite : (i : ℕ) → i < length bs → get_or (overwrite d at bs) (at + i) 0 ≡ get_or bs i 0
  unfolding overwrite
  get_d_overwrite i h =
      let l : length (take at d) ≡ at = length-take-le at d (omega arith) in
      let e : at + i ≡ length (take at d) + i = ap (λ (k : ℕ). k + i) (sym l) in
      rw (append_assoc, e, get_or-append-add) (get_or-append bs (drop (at + length bs) d) 0 i h)

  pub get_d_before : (i : ℕ) → i < at → get_or (overwrite d at bs) i 0 ≡ get_or d i 0
  unfolding overwrite
  get_d_before i h =
      let l : length (take at d) ≡ at = length-take-le at d (omega arith) in
      rw append_assoc (get_or-append (take at d) (bs ++ drop (at + length bs) d) 0 i (omega arith) ∙ get_or-take at d i 0 h)

  pub get_d_behind : (i : ℕ) → at + length bs ≤ i → get_or (overwrite d at bs) i 0 ≡ get_or d i 0
  unfolding overwrite
  get_d_behind i h =
      let e : i ≡ length (take at d ++ bs) + (i - (at + length bs)) = omega (arith, head) in
      let b : at + length bs + (i - (at + length bs)) ≡ i = omega arith in
      ap (λ (k : ℕ). get_or (take at d ++ bs ++ drop (at + length bs) d) k 0) e
      ∙ get_or-append-add (take at d ++ bs) (drop (at + length bs) d) (i - (at + length bs)) 0
      ∙ get_or-drop (at + length bs) d (i - (at + length bs)) 0
      ∙ ap (λ (k : ℕ). get_or d k 0) b

-- a buffer written from its start: the elements, and what was behind them
pub overwrite_0 : (d bs : List ℕ) → overwrite d 0 bs ≡ bs ++ drop (length bs) d
unfolding overwrite
overwrite_0 d bs = rw zero-add refl

-- a write up to the buffer's end
pub overwrite_tail : (d : List ℕ) (at : ℕ) (bs : List ℕ) → at + length bs ≡ length d → overwrite d at bs ≡ take at d ++ bs
unfolding overwrite
overwrite_tail d at bs e = rw (e, drop-length, append-nil) refl

pub overwrite_nil : (d : List ℕ) (at : ℕ) → d ≡ overwrite d at []
unfolding overwrite
overwrite_nil d at = rw (add-zero, append-nil, take-append-drop) refl

-- ---- zeros

pub drop_zeros : (n m : ℕ) → drop n (zeros m) ≡ zeros (m - n)
drop_zeros zero m = ap (λ (k : ℕ). zeros k) (sym (sub-zero m))
drop_zeros (suc n) zero = ap (λ (k : ℕ). zeros k) (sym (zero-sub (suc n)))
drop_zeros (suc n) (suc m) = drop_zeros n m ∙ ap (λ (k : ℕ). zeros k) (sym (suc-sub-suc m n))

-- a cleared buffer written from its start
pub overwrite_zeros : (n : ℕ) (bs : List ℕ) → overwrite (zeros n) 0 bs ≡ padded n bs
overwrite_zeros n bs = overwrite_0 (zeros n) bs ∙ ap (λ (l : List ℕ). bs ++ l) (drop_zeros (length bs) n)

-- a buffer cleared from its start
pub overwrite_all : (d : List ℕ) → overwrite d 0 (zeros (length d)) ≡ zeros (length d)
overwrite_all d =
    let z : length (zeros (length d)) ≡ length d = length-replicate (length d) 0 in
    overwrite_tail d 0 (zeros (length d)) (omega arith)

pub zeros_suc : (n : ℕ) → zeros n ++ (0 ∷ []) ≡ zeros (n + 1)
zeros_suc n = replicate-append-replicate n 1 0

-- ---- stores, as a loop makes them

pub set_overwrite : (l : List ℕ) (n v : ℕ) → n < length l → set l n v ≡ overwrite l n (v ∷ [])
unfolding overwrite
set_overwrite l n v h = sets-eq (v ∷ []) l n (omega arith)

-- four stores in a row are one write
pub overwrite_4 : (d : List ℕ) (at a b e f : ℕ) → at + 4 ≤ length d
    → set (set (set (set d at a) (at + 1) b) (at + 2) e) (at + 3) f ≡ overwrite d at (a ∷ b ∷ e ∷ f ∷ [])
unfolding overwrite
overwrite_4 d at a b e f h =
    let e1 : at + 1 ≡ suc at = omega arith in
    let e2 : at + 2 ≡ suc (suc at) = omega arith in
    let e3 : at + 3 ≡ suc (suc (suc at)) = omega arith in
    rw (e1, e2, e3) (sets-eq (a ∷ b ∷ e ∷ f ∷ []) d at h)

pub overwrite_push : (d : List ℕ) (at : ℕ) (bs : List ℕ) (n v : ℕ) → n ≡ at + length bs → n < length d
    → set (overwrite d at bs) n v ≡ overwrite d at (bs ++ (v ∷ []))
overwrite_push d at bs n v e h =
    let f : at + length bs ≤ length d = omega arith in
    let l : n < length (overwrite d at bs) = rw (length_overwrite d at bs f) h in
    set_overwrite (overwrite d at bs) n v l ∙ overwrite_next d at bs f n (v ∷ []) e (omega arith)

-- a turn of the loop that copies `s`, and of the loop that writes zeros
pub copy_more : (d : List ℕ) (at : ℕ) (s : List ℕ) (i : ℕ) → at + length s ≤ length d → i < length s
    → set (overwrite d at (take i s)) (at + i) (get_or s i 0) ≡ overwrite d at (take (i + 1) s)
copy_more d at s i h b =
    let l : length (take i s) ≡ i = length-take-le i s (omega arith) in
    overwrite_push d at (take i s) (at + i) (get_or s i 0) (omega arith) (omega arith)
    ∙ rw (add-one, take-suc s i 0) refl

pub zero_more : (d : List ℕ) (at k n : ℕ) → n ≡ at + k → n < length d → set (overwrite d at (zeros k)) n 0 ≡ overwrite d at (zeros (k + 1))
zero_more d at k n e h =
    let l : length (zeros k) ≡ k = length-replicate k 0 in
    overwrite_push d at (zeros k) n 0 (omega arith) h ∙ rw zeros_suc refl

-- ---- a sequence of writes to one buffer, each right behind the last: `l` is `d` with `bs` written from `at`

pub record Wrote (d : List ℕ) (at : ℕ) (bs l : List ℕ) : Type 0 where
  pub is : l ≡ overwrite d at bs

-- nothing written yet
pub wrote_none : (d : List ℕ) (at : ℕ) → Wrote d at [] d
wrote_none d at = record { is = overwrite_nil d at }

-- a store of one byte as the first write
pub wrote_byte : (d : List ℕ) (at v : ℕ) → at < length d → Wrote d at (v ∷ []) (set d at v)
wrote_byte d at v h = record { is = set_overwrite d at v h }

module _ {d : List ℕ} {at : ℕ} {bs l : List ℕ} (w : Wrote d at bs l) where
  -- the next write, `cs` at the index `n` that the code has
  pub wrote_next : {m : List ℕ} (n : ℕ) (cs : List ℕ) → m ≡ overwrite l n cs → n ≡ at + length bs → n + length cs ≤ length d → Wrote d at (bs ++ cs) m
  wrote_next n cs e a h = record {
    is = e ∙ ap (λ (x : List ℕ). overwrite x n cs) w.is ∙ overwrite_next d at bs (omega arith) n cs a h;
  }

  pub wrote_length : at + length bs ≤ length d → length l ≡ length d
  wrote_length h = ap length w.is ∙ length_overwrite d at bs h

  -- zeros up to the buffer's end, as `zero_from` writes them
  pub wrote_zeros : {m : List ℕ} (n : ℕ) → m ≡ overwrite l n (zeros (length l - n)) → n ≡ at + length bs → n ≤ length d
      → m ≡ take at d ++ (bs ++ zeros (length d - n))
  wrote_zeros n e a h =
      let z : length (zeros (length d - n)) ≡ length d - n = length-replicate (length d - n) 0 in
      let e' = rw (wrote_length (omega arith)) at e in
      (wrote_next n (zeros (length d - n)) e' a (omega arith)).is ∙ overwrite_tail d at (bs ++ zeros (length d - n)) (rw length-append (omega arith))

-- the same of a buffer written from its start: `bs`, padded to the buffer's length
pub wrote_padded : {d bs l m : List ℕ} → Wrote d 0 bs l → (n : ℕ) → m ≡ overwrite l n (zeros (length l - n)) → n ≡ length bs → n ≤ length d
    → m ≡ padded (length d) bs
wrote_padded {d} {bs} w n e a h = wrote_zeros w n e (omega arith) h ∙ rw a refl

-- a part that was lent and came back as `bs`: `&mut out[at..at + k]`
pub wrote_part : (d bs : List ℕ) (at k : ℕ) → length bs ≡ k → at + k ≤ length d → Wrote d at bs (take at d ++ (bs ++ drop k (drop at d)))
unfolding overwrite
wrote_part d bs at k e h = record { is = rw (drop-drop, e, append_assoc) refl }
