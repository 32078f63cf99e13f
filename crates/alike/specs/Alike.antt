-- Items of which the first is repeated.
use Rattle.std.specs.Prelude.{◌≡◌, ℕ, ◌+◌, ◌-◌, ◌≤◌, ◌<◌, List, [], ◌∷◌, get_or, take, drop}
use Rattle.std.proofs.Common.{sym, ap, ◌∙◌, add_assoc, arith}
use Rattle.std.proofs.lemmas.List.{get_or-take, get_or-drop}
use Rattle.model.specs.Bytes.{byte_at, word_at}
use Rattle.records.specs.Values.{body_at}

-- the r items behind f 0, of at most `most`, are like it
pub record Alike {A : Type 0} (f : ℕ → A) (most r : ℕ) : Type 0 where
  pub few : r ≤ most
  pub same : (j : ℕ) → j < r → f (j + 1) ≡ f 0

-- ---- bodies

same_byte : (t : List ℕ) (a b i : ℕ) → take (a + 34 - a) (drop a t) ≡ take (b + 34 - b) (drop b t) → i < 34 → byte_at t (b + i) ≡ byte_at t (a + i)
same_byte t a b i e h =
    let x = get_or-take (a + 34 - a) (drop a t) i 0 (omega arith) ∙ get_or-drop a t i 0 in
    let y = get_or-take (b + 34 - b) (drop b t) i 0 (omega arith) ∙ get_or-drop b t i 0 in
    sym y ∙ ap (λ (l : List ℕ). get_or l i 0) (sym e) ∙ x

module _ (t : List ℕ) (a b : ℕ) (e : take (a + 34 - a) (drop a t) ≡ take (b + 34 - b) (drop b t)) where
  byte : (i : ℕ) → i < 34 → byte_at t (b + i) ≡ byte_at t (a + i)
  byte i h = same_byte t a b i e h

  word : (i : ℕ) → i + 3 < 34 → word_at t (b + i) ≡ word_at t (a + i)
  unfolding word_at
  word i h =
      let k0 = byte i (omega arith) in
      let k1 = next 1 (omega arith) in
      let k2 = next 2 (omega arith) in
      let k3 = next 3 (omega arith) in
      omega (arith, k0, k1, k2, k3)
    where
      next : (k : ℕ) → i + k < 34 → byte_at t (b + i + k) ≡ byte_at t (a + i + k)
      next k l = ap (byte_at t) (add_assoc b i k) ∙ byte (i + k) l ∙ ap (byte_at t) (sym (add_assoc a i k))

  -- bodies of the same 34 bytes
  pub same_bodies : body_at t b ≡ body_at t a
  unfolding body_at
  same_bodies =
      let start = λ (p : ℕ). (let z : p ≡ p + 0 = omega arith in z) in
      let kind = ap (byte_at t) (start b) ∙ byte 0 (omega arith) ∙ ap (byte_at t) (sym (start a)) in
      let tag = byte 1 (omega arith) in
      let w0 = word 2 (omega arith) in
      let w1 = word 6 (omega arith) in
      let w2 = word 10 (omega arith) in
      let w3 = word 14 (omega arith) in
      let w4 = word 18 (omega arith) in
      let w5 = word 22 (omega arith) in
      let w6 = word 26 (omega arith) in
      let w7 = word 30 (omega arith) in
      λ i. record { kind = kind i; tag = tag i; plain1 = w0 i; plain2 = w1 i; words = w2 i ∷ w3 i ∷ w4 i ∷ w5 i ∷ w6 i ∷ w7 i ∷ [] }
