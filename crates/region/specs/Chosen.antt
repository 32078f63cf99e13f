-- The numbers of `chosen_region`, by the first condition that holds, for each return of the code.
use Rattle.std.specs.Prelude.{◌≡◌, ℕ, ◌<◌, Bool, true, false, cond, ◌&&◌, length, leb, eqb}
use Rattle.std.proofs.Math.Path.{refl}
use Rattle.std.proofs.Common.{◌∙◌, arith}
use borrow.Author.Tests.{eq-eqb, ne_eqb}
use Rattle.model.specs.Limits.{max_text}
use Rattle.model.specs.Lists.{same}
use Rattle.model.specs.Utf8.{utf8}
use Rattle.model.specs.Offset.{Span}
use Rattle.model.specs.Types.{LexOutput}
use Rattle.model.specs.Refusal.{Checked, Checked.refused, Checked.accepted, ◌>>=◌, refuse◌if◌}
use Rattle.model.specs.Region.{Edit, edited, balanced_region, is_whole, has_ruby_format_dependency, chosen_region}
use Rattle.facts.specs.Truth.{by_bool}
use Rattle.edit.specs.Numbers.{within, edit_number, within_ok}

-- Number 11, by the text's length.
unfoldable pub whole_text : ℕ → Span → Bool
whole_text size r = eqb r.start 0 && eqb r.end size

-- numbers 10 and 11, or the region
unfoldable pub region_or : Bool → Bool → Span → Checked Span
region_or depends whole r = cond depends (refused 10) (cond whole (refused 11) (accepted r))

unfoldable pub chosen_by : ℕ → Checked Span → Checked Span
chosen_by n rest = cond (eqb n 0) rest (refused n)

module _ (b : LexOutput) (e : Edit) where
  abbrev behind : Checked Span
  behind = region_or (has_ruby_format_dependency b e) (is_whole b (balanced_region b e)) (balanced_region b e)

  -- the model's chain: the edit's numbers depend on the old text alone
  pub chosen_by_lem : chosen_region b e ≡ chosen_by (edit_number b.sanitized e) behind
  unfolding chosen_region refuse◌if◌ ◌>>=◌ edit_number chosen_by region_or
  chosen_by_lem =
      by_bool (within b.sanitized e.start e.end)
      (λ x.
      by_bool (utf8 e.replacement)
      (λ y.
      by_bool (leb (length (edited b.sanitized e)) max_text)
      (λ z.
      by_bool (same (edited b.sanitized e) b.sanitized)
      (λ w. rw (within_ok b e, x, y, z, w) refl)
      (λ w.
      by_bool (has_ruby_format_dependency b e)
      (λ u. rw (within_ok b e, x, y, z, w, u) refl)
      (λ u.
      by_bool (is_whole b (balanced_region b e))
      (λ v. rw (within_ok b e, x, y, z, w, u, v) refl)
      (λ v. rw (within_ok b e, x, y, z, w, u, v) refl))))
      (λ z. rw (within_ok b e, x, y, z) refl))
      (λ y. rw (within_ok b e, x, y) refl))
      (λ x. rw (within_ok b e, x) refl)

  module _ {n : ℕ} (q : n ≡ edit_number b.sanitized e) where
    pub chosen_edit : 0 < n → chosen_region b e ≡ refused n
    unfolding chosen_by
    chosen_edit h = chosen_by_lem ∙ rw (← q, ne_eqb n 0 (λ z. omega (arith, h, z))) refl

    module _ (z : n ≡ 0) {x : Bool} (f : x ≡ has_ruby_format_dependency b e) where
      pub chosen_depends : x ≡ true → chosen_region b e ≡ refused 10
      unfolding chosen_by region_or
      chosen_depends g = chosen_by_lem ∙ rw (← q, eq-eqb n 0 z, ← f, g) refl

      module _ (g : x ≡ false) {w : Bool} (h : w ≡ is_whole b (balanced_region b e)) where
        pub chosen_whole : w ≡ true → chosen_region b e ≡ refused 11
        unfolding chosen_by region_or
        chosen_whole k = chosen_by_lem ∙ rw (← q, eq-eqb n 0 z, ← f, g, ← h, k) refl

        pub chosen_region_lem : w ≡ false → chosen_region b e ≡ accepted (balanced_region b e)
        unfolding chosen_by region_or
        chosen_region_lem k = chosen_by_lem ∙ rw (← q, eq-eqb n 0 z, ← f, g, ← h, k) refl
