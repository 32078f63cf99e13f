-- Numbers 12 to 17, by the first condition that holds, for each return of the code.
use Rattle.std.specs.Prelude.{◌≡◌, ℕ, Bool, true, false, cond, not, ◌&&◌, ◌||◌, length}
use Rattle.std.proofs.Math.Path.{refl, sym}
use Rattle.std.proofs.Common.{◌∙◌, arith}
use Rattle.std.proofs.Math.Dec.{leb}
use Rattle.model.specs.Limits.{max_layers}
use Rattle.model.specs.Lists.{any, is_empty, same}
use Rattle.model.specs.Offset.{Span}
use Rattle.model.specs.Types.{LexOutput, RegionOutput}
use Rattle.model.specs.Refusal.{Checked.refused, ◌>>=◌, refuse◌if◌}
use Rattle.model.specs.Region.{Edit}
use Rattle.model.specs.Merge.{new_region_text, balanced_nodes, is_unclosed, mark_at_empty_region, introduces_ruby_format_dependency, window_of, cuts_ok, fitting}
use Rattle.facts.specs.Truth.{neither, by_bool}
use Rattle.laws.specs.Checks.{Passed}
use Rattle.passage.specs.Layers.{layer_missing}

-- the first of 15 to 17 that holds, or 0
unfoldable pub cut_number : LexOutput → Edit → Span → RegionOutput → ℕ
cut_number old e r reading =
    cond (introduces_ruby_format_dependency old reading r) 15
    (cond (cuts_ok old (window_of old e reading r)) (cond (layer_missing old reading) 17 0) 16)

-- Number 14, of the reading's diagnostics or of the old book's.
abbrev pub unclosed_or_marked : LexOutput → Span → RegionOutput → Bool
unclosed_or_marked old r reading = any is_unclosed reading.diagnostics || mark_at_empty_region old.diagnostics r

-- the first of 12 to 17 that holds, or 0
unfoldable pub reading_number : LexOutput → Edit → Span → RegionOutput → ℕ
reading_number old e r reading =
    cond (same reading.sanitized (new_region_text old e r))
    (cond (balanced_nodes reading.source_nodes)
    (cond (unclosed_or_marked old r reading) 14 (cut_number old e r reading)) 13) 12

module _ (old : LexOutput) (e : Edit) (r : Span) (reading : RegionOutput) where
  -- for each return of the code: the tests up to there
  module _ {x₁ : Bool} (f₁ : x₁ ≡ same reading.sanitized (new_region_text old e r)) where
    pub number_12 : x₁ ≡ false → 12 ≡ reading_number old e r reading
    unfolding reading_number
    number_12 h = rw (← f₁, h) refl

    module _ (h₁ : x₁ ≡ true) {x₂ : Bool} (f₂ : x₂ ≡ balanced_nodes reading.source_nodes) where
      pub number_13 : x₂ ≡ false → 13 ≡ reading_number old e r reading
      unfolding reading_number
      number_13 h = rw (← f₁, h₁, ← f₂, h) refl

      module _ (h₂ : x₂ ≡ true) {x₃ : Bool} (f₃ : x₃ ≡ unclosed_or_marked old r reading) where
        pub number_14 : x₃ ≡ true → 14 ≡ reading_number old e r reading
        unfolding reading_number
        number_14 h = rw (← f₁, h₁, ← f₂, h₂, ← f₃, h) refl

        module _ (h₃ : x₃ ≡ false) where
          pub number_rest : {n : ℕ} → n ≡ cut_number old e r reading → n ≡ reading_number old e r reading
          unfolding reading_number
          number_rest q = q ∙ sym (rw (← f₁, h₁, ← f₂, h₂, ← f₃, h₃) refl)

  module _ {x₄ : Bool} (f₄ : x₄ ≡ introduces_ruby_format_dependency old reading r) where
    pub number_15 : x₄ ≡ true → 15 ≡ cut_number old e r reading
    unfolding cut_number
    number_15 h = rw (← f₄, h) refl

    module _ (h₄ : x₄ ≡ false) {x₅ : Bool} (f₅ : x₅ ≡ cuts_ok old (window_of old e reading r)) where
      pub number_16 : x₅ ≡ false → 16 ≡ cut_number old e r reading
      unfolding cut_number
      number_16 h = rw (← f₄, h₄, ← f₅, h) refl

      module _ (h₅ : x₅ ≡ true) where
        pub number_17 : layer_missing old reading ≡ true → 17 ≡ cut_number old e r reading
        unfolding cut_number
        number_17 h = rw (← f₄, h₄, ← f₅, h₅, h) refl

        pub number_0 : layer_missing old reading ≡ false → 0 ≡ cut_number old e r reading
        unfolding cut_number
        number_0 h = rw (← f₄, h₄, ← f₅, h₅, h) refl

  -- ---- the model's chain

  module _ {n : ℕ} (q : n ≡ reading_number old e r reading) where
    pub number_refused : (n ≡ 0 → ⊥) → fitting old e r reading ≡ refused n
    unfolding fitting refuse◌if◌ ◌>>=◌ reading_number cut_number layer_missing
    number_refused h =
        by_bool (same reading.sanitized (new_region_text old e r))
        (λ x₁.
        by_bool (balanced_nodes reading.source_nodes)
        (λ x₂.
        by_bool (unclosed_or_marked old r reading)
        (λ x₃. let z : n ≡ 14 = q ∙ rw (x₁, x₂, x₃) refl in rw (x₁, x₂, x₃, z) refl)
        (λ x₃.
        by_bool (introduces_ruby_format_dependency old reading r)
        (λ x₄. let z : n ≡ 15 = q ∙ rw (x₁, x₂, x₃, x₄) refl in rw (x₁, x₂, x₃, x₄, z) refl)
        (λ x₄.
        by_bool (cuts_ok old (window_of old e reading r))
        (λ x₅.
        by_bool (not (is_empty reading.source_nodes) && leb max_layers (length old.layers))
        (λ x₆. let z : n ≡ 17 = q ∙ rw (x₁, x₂, x₃, x₄, x₅, x₆) refl in rw (x₁, x₂, x₃, x₄, x₅, x₆, z) refl)
        (λ x₆. absurd (h (q ∙ rw (x₁, x₂, x₃, x₄, x₅, x₆) refl))))
        (λ x₅. let z : n ≡ 16 = q ∙ rw (x₁, x₂, x₃, x₄, x₅) refl in rw (x₁, x₂, x₃, x₄, x₅, z) refl))))
        (λ x₂. let z : n ≡ 13 = q ∙ rw (x₁, x₂) refl in rw (x₁, x₂, z) refl))
        (λ x₁. let z : n ≡ 12 = q ∙ rw x₁ refl in rw (x₁, z) refl)

    pub number_passed : n ≡ 0 → Passed old e r reading
    unfolding reading_number cut_number layer_missing
    number_passed h =
        let none : (k : ℕ) → (k ≡ 0 → ⊥) → reading_number old e r reading ≡ k → ⊥ = λ k p s. p (sym s ∙ sym q ∙ h) in
        by_bool (same reading.sanitized (new_region_text old e r))
        (λ x₁.
        by_bool (balanced_nodes reading.source_nodes)
        (λ x₂.
        by_bool (unclosed_or_marked old r reading)
        (λ x₃. absurd (none 14 (λ z. omega (arith, z)) (rw (x₁, x₂, x₃) refl)))
        (λ x₃.
        by_bool (introduces_ruby_format_dependency old reading r)
        (λ x₄. absurd (none 15 (λ z. omega (arith, z)) (rw (x₁, x₂, x₃, x₄) refl)))
        (λ x₄.
        by_bool (cuts_ok old (window_of old e reading r))
        (λ x₅.
        by_bool (not (is_empty reading.source_nodes) && leb max_layers (length old.layers))
        (λ x₆. absurd (none 17 (λ z. omega (arith, z)) (rw (x₁, x₂, x₃, x₄, x₅, x₆) refl)))
        (λ x₆. record { region_text = x₁; balanced = x₂; closed = (neither _ _ x₃).0; unmarked = (neither _ _ x₃).1; independent = x₄; cuts = x₅; layers = x₆ }))
        (λ x₅. absurd (none 16 (λ z. omega (arith, z)) (rw (x₁, x₂, x₃, x₄, x₅) refl))))))
        (λ x₂. absurd (none 13 (λ z. omega (arith, z)) (rw (x₁, x₂) refl))))
        (λ x₁. absurd (none 12 (λ z. omega (arith, z)) (rw x₁ refl)))
