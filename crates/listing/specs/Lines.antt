-- A row's fields put one behind the other.
use Rattle.std.specs.Prelude.{◌≡◌, ℕ, ◌+◌, ◌<◌, Bool, length, get_or, take, ltb, eqb}
use Rattle.std.proofs.Common.{sym, ap, ◌∙◌, arith, add-one, take-suc}
use mathlib.Core.List.{List, [], ◌∷◌, ◌++◌, map, flatten}
use borrow.Author.Tests.{ltb-false}
use Rattle.facts.specs.Truth.{by_bool}
use Rattle.facts.specs.Lists.{map_append, flatten_snoc}
use Rattle.listing.specs.Listing.{row_for}

pub row_few : (command second : ℕ) (edit : Bool) → row_for command edit second < 14
unfolding row_for
row_few command second edit =
    by_bool (ltb 10 command)
    (λ e. rw e (omega arith))
    (λ e.
    rw e
    (by_bool (eqb command 1)
    (λ f. rw f (by_bool edit (λ g. rw g (omega arith)) (λ g. rw g (omega arith))))
    (λ f.
    rw f
    (by_bool (eqb command 4)
    (λ g. rw g (by_bool (eqb second 0) (λ k. rw k (omega arith)) (λ k. rw k (omega arith))))
    (λ g.
    rw g
    (by_bool (eqb command 6)
    (λ k. rw k (by_bool (ltb second 2) (λ y. rw y (omega arith)) (λ y. rw y (omega arith))))
    (λ k. rw k (omega (arith, ltb-false 10 command e)))))))))

-- what one more field adds
pub fields_more : {A B : Type 0} (g : B → List ℕ) (f : A → B) (l : List A) (i : ℕ) (default : A) → i < length l
    → flatten (map g (map f (take i l))) ++ g (f (get_or l i default)) ≡ flatten (map g (map f (take (i + 1) l)))
fields_more g f l i default h =
    sym (flatten_snoc (map g (map f (take i l))) (g (f (get_or l i default))))
    ∙ ap flatten (sym (map_append g (map f (take i l)) (f (get_or l i default) ∷ [])))
    ∙ ap (λ x. flatten (map g x)) (sym (map_append f (take i l) (get_or l i default ∷ [])))
    ∙ ap (λ x. flatten (map g (map f x))) (sym (take-suc l i default h) ∙ ap (λ (k : ℕ). take k l) (sym (add-one i)))
