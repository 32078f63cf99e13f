-- A law of `same`.
use Rattle.std.specs.Prelude.{ℕ, suc, ◌≡◌, false, List, [], ◌∷◌, length, eqb}
use Rattle.std.proofs.Math.Path.{refl, ap}
use Rattle.model.specs.Lists.{same}
use Rattle.facts.specs.Truth.{by_bool}

pub same_length : (a b : List ℕ) → (length a ≡ length b → ⊥) → same a b ≡ false
same_length [] [] h = absurd (h refl)
same_length [] (y ∷ ys) h = refl
same_length (x ∷ xs) [] h = refl
same_length (x ∷ xs) (y ∷ ys) h = by_bool (eqb x y) (λ t. rw t (same_length xs ys (λ e. h (ap suc e)))) (λ f. rw f refl)
