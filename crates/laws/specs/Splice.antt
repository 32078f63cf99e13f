-- Two parts of a text replaced, in both orders.
use Rattle.std.specs.Prelude.{◌≡◌, ℕ, zero, suc, ◌+◌, ◌-◌, ◌≤◌, ◌<◌, List, [], ◌∷◌, ◌++◌, length, get_or, take, drop}
use Rattle.std.proofs.Common.{sym, ap, ap₂, ◌∙◌, zero-add, suc-add, arith, append_assoc, length-append, length-drop, length-take-le, take-take, drop-drop, get_or-take, get_or-drop, get_or-append-add}
use Rattle.std.proofs.Math.ListN.{get_or-append}
use Rattle.std.proofs.Math.Seq.{take-nil, take-append-add, drop-append-add}
use Rattle.std.proofs.lemmas.List.{take-append-le, drop-append-le}
use Rattle.facts.specs.Lists.{head_length}

-- the part from a to b replaced
abbrev pub splice : ℕ → ℕ → List ℕ → List ℕ → List ℕ
splice a b r t = take a t ++ (r ++ drop b t)

pub drop_take : (b n : ℕ) (t : List ℕ) → drop b (take (b + n) t) ≡ take n (drop b t)
drop_take zero n t = ap (λ (k : ℕ). take k t) (zero-add n)
drop_take (suc b) n [] = rw (suc-add b n) (sym (take-nil n))
drop_take (suc b) n (x ∷ t) = rw (suc-add b n) (drop_take b n t)

module _ (a b : ℕ) (r t : List ℕ) (h₁ : a ≤ b) (h₂ : b ≤ length t) where
  pub splice_length : length (splice a b r t) ≡ length t + length r - (b - a)
  splice_length =
      let e = length-take-le a t (omega arith) in
      let f = length-drop b t in
      let g = length-append (take a t) (r ++ drop b t) in
      let h = length-append r (drop b t) in
      omega arith

  long : length (take a t ++ r) ≡ a + length r
  long = head_length t a r (omega arith)

  -- at or before the part: as it was
  pub take_splice_front : (n : ℕ) → n ≤ a → take n (splice a b r t) ≡ take n t
  take_splice_front n h =
      let e = length-take-le a t (omega arith) in
      take-append-le n (take a t) (r ++ drop b t) (omega arith) ∙ take-take n a t h

  -- behind it: moved
  pub drop_splice_rest : (k : ℕ) → drop (a + length r + k) (splice a b r t) ≡ drop (b + k) t
  drop_splice_rest k =
      ap₂ (λ (n : ℕ) (l : List ℕ). drop n l) (ap (λ (n : ℕ). n + k) (sym long)) (sym (append_assoc (take a t) r (drop b t)))
      ∙ drop-append-add (take a t ++ r) (drop b t) k
      ∙ drop-drop k b t

  pub take_splice_rest : (k : ℕ) → take (a + length r + k) (splice a b r t) ≡ take a t ++ (r ++ take k (drop b t))
  take_splice_rest k =
      ap₂ (λ (n : ℕ) (l : List ℕ). take n l) (ap (λ (n : ℕ). n + k) (sym long)) (sym (append_assoc (take a t) r (drop b t)))
      ∙ take-append-add (take a t ++ r) (drop b t) k
      ∙ append_assoc (take a t) r (take k (drop b t))

  -- a byte before the part, in it, behind it
  pub byte_front : (i : ℕ) → i < a → get_or (splice a b r t) i 0 ≡ get_or t i 0
  byte_front i h =
      let e = length-take-le a t (omega arith) in
      get_or-append (take a t) (r ++ drop b t) 0 i (omega arith) ∙ get_or-take a t i 0 h

  pub byte_inner : (i : ℕ) → i < length r → get_or (splice a b r t) (a + i) 0 ≡ get_or r i 0
  byte_inner i h =
      let e = length-take-le a t (omega arith) in
      ap (λ (k : ℕ). get_or (splice a b r t) (k + i) 0) (sym e) ∙ get_or-append-add (take a t) (r ++ drop b t) i 0 ∙ get_or-append r (drop b t) 0 i h

  pub byte_rest : (i : ℕ) → get_or (splice a b r t) (a + length r + i) 0 ≡ get_or t (b + i) 0
  byte_rest i =
      let e = length-take-le a t (omega arith) in
      let k : a + length r + i ≡ length (take a t) + (length r + i) = omega arith in
      ap (λ (n : ℕ). get_or (splice a b r t) n 0) k ∙ get_or-append-add (take a t) (r ++ drop b t) (length r + i) 0
      ∙ get_or-append-add r (drop b t) i 0 ∙ get_or-drop b t i 0

pub splice_comm : (a b c d : ℕ) (r s t : List ℕ) → a ≤ b → b ≤ c → c ≤ d → d ≤ length t
    → splice (c + length r - (b - a)) (d + length r - (b - a)) s (splice a b r t) ≡ splice a b r (splice c d s t)
splice_comm a b c d r s t h₁ h₂ h₃ h₄ =
    let c' : c + length r - (b - a) ≡ a + length r + (c - b) = omega arith in
    let d' : d + length r - (b - a) ≡ a + length r + (d - b) = omega arith in
    let l : b ≤ length t = omega arith in
    let k : c ≡ b + (c - b) = omega arith in
    let m : b + (d - b) ≡ d = omega arith in
    let n : a ≤ c = omega arith in
    let o = length-take-le c t (omega arith) in
    let u : b ≤ length (take c t) = omega arith in
    let e₁ : take (c + length r - (b - a)) (splice a b r t) ≡ take a t ++ (r ++ take (c - b) (drop b t)) = rw c' (take_splice_rest a b r t h₁ l (c - b)) in
    let e₂ : drop (d + length r - (b - a)) (splice a b r t) ≡ drop d t = rw d' (drop_splice_rest a b r t h₁ l (d - b) ∙ ap (λ (i : ℕ). drop i t) m) in
    let e₃ : take a (splice c d s t) ≡ take a t = take_splice_front c d s t h₃ h₄ a n in
    let e₄ : drop b (take c t) ≡ take (c - b) (drop b t) = ap (λ (i : ℕ). drop b (take i t)) k ∙ drop_take b (c - b) t in
    let e₅ : drop b (splice c d s t) ≡ take (c - b) (drop b t) ++ (s ++ drop d t) = drop-append-le b (take c t) (s ++ drop d t) u ∙ ap (λ (i : List ℕ). i ++ (s ++ drop d t)) e₄ in
    ap₂ (λ (x y : List ℕ). x ++ (s ++ y)) e₁ e₂
    ∙ append_assoc (take a t) (r ++ take (c - b) (drop b t)) (s ++ drop d t)
    ∙ ap (λ (x : List ℕ). take a t ++ x) (append_assoc r (take (c - b) (drop b t)) (s ++ drop d t))
    ∙ sym (ap₂ (λ (x y : List ℕ). x ++ (r ++ y)) e₃ e₅)
