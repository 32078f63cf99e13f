-- The strings among the bytes. Assumes nothing.
use Rattle.std.specs.Prelude.{◌≡◌, length, take, drop}
use Rattle.std.proofs.Math.Path.{refl, sym, ap}
use Rattle.std.proofs.Common.{◌∙◌, arith}
use mathlib.Core.List.{List, [], ◌∷◌, ◌++◌}
use Prim.Native.Nat.{ℕ, zero, suc, ◌+◌, ◌-◌, ◌*◌, ◌<◌, ◌≤◌}
use Rattle.std.proofs.Math.Decide.{ℕ_discrete}
use Rattle.std.proofs.Math.ListN.{get_or, length-append, get_or-append}
use Rattle.std.proofs.Math.Seq.{get_or-append_seam}
use Rattle.table.specs.Layout.{wide_at, wide_words, string_at, strings_up_to, strings_of, Starts}
use Rattle.table.specs.Wide.{wide_is}

module _ (starts bytes : List ℕ) where
  pub length_strings : (n : ℕ) → length (strings_up_to n starts bytes) ≡ n
  unfolding strings_up_to
  length_strings zero = refl
  length_strings (suc n) = length-append (strings_up_to n starts bytes) (string_at starts bytes n ∷ []) ∙ omega (arith, length_strings n)

  pub string_is : (n k : ℕ) → k < n → get_or (strings_up_to n starts bytes) k [] ≡ string_at starts bytes k
  unfolding strings_up_to
  string_is zero k h = absurd (omega arith)
  string_is (suc n) k h =
      elim (ℕ_discrete k n) [
        | yes e ↦ ap (λ (j : ℕ). get_or (strings_up_to n starts bytes ++ (string_at starts bytes n ∷ [])) j []) (e ∙ sym (length_strings n)) ∙ get_or-append_seam (strings_up_to n starts bytes) (string_at starts bytes n) [] [] ∙ ap (string_at starts bytes) (sym e)
        | no ne ↦ (let lt : k < n = omega (arith, ne) in get_or-append (strings_up_to n starts bytes) (string_at starts bytes n ∷ []) [] k (omega (arith, length_strings n)) ∙ string_is n k lt)
      ]

-- the part of the bytes that the code takes for string id, whose start and end stand in two words each
module _ (words bytes : List ℕ) {i a z id : ℕ} (hi : i ≡ id) (ha : a ≡ wide_at words (2 * i)) (hz : z ≡ wide_at words (2 * (i + 1))) (lt : id + 1 < length (wide_words words)) where
  start_here : a ≡ get_or (wide_words words) id 0
  start_here = ha ∙ ap (λ (k : ℕ). wide_at words (2 * k)) hi ∙ sym (wide_is words id (omega arith))

  end_here : z ≡ get_or (wide_words words) (id + 1) 0
  end_here = hz ∙ ap (λ (k : ℕ). wide_at words (2 * (k + 1))) hi ∙ sym (wide_is words (id + 1) lt)

  pub part_bounds : Starts (wide_words words) (length bytes) → (a ≤ z) × (z ≤ length bytes)
  part_bounds h = (omega (arith, h id lt, start_here, end_here), omega (arith, h id lt, end_here))

  pub part_is : take (z - a) (drop a bytes) ≡ get_or (strings_of (wide_words words) bytes) id []
  part_is = (λ j. take (end_here j - start_here j) (drop (start_here j) bytes)) ∙ sym (string_is (wide_words words) bytes (length (wide_words words) - 1) id (omega arith))

pub strings_ext : (starts starts' bytes bytes' : List ℕ) (n : ℕ) → ((k : ℕ) → k < n → string_at starts bytes k ≡ string_at starts' bytes' k) → strings_up_to n starts bytes ≡ strings_up_to n starts' bytes'
unfolding strings_up_to
strings_ext starts starts' bytes bytes' zero h = refl
strings_ext starts starts' bytes bytes' (suc n) h = λ i. strings_ext starts starts' bytes bytes' n (λ k lt. h k (omega arith)) i ++ (h n (omega arith) i ∷ [])
