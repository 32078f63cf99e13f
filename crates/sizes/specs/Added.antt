-- What grafting adds to a new layer, and sums of it.
use Rattle.std.specs.Prelude.{◌≡◌, ℕ, ◌+◌, List, [], ◌∷◌, ◌++◌}
use Rattle.std.proofs.Common.{sym, ap, ◌∙◌, arith}

-- how many contents and segments are pushed, and how often `intern` is called
pub record Added : Type 0 where
  pub contents : ℕ
  pub segments : ℕ
  pub calls : ℕ

abbrev pub nothing : Added
nothing = record { contents = 0; segments = 0; calls = 0 }

abbrev pub one_call : Added
one_call = record { contents = 0; segments = 0; calls = 1 }

abbrev pub new_contents : ℕ → Added
new_contents n = record { contents = n; segments = 0; calls = 0 }

abbrev pub new_segments : ℕ → Added
new_segments n = record { contents = 0; segments = n; calls = 0 }

unfoldable pub add : Added → Added → Added
add a b = record { contents = a.contents + b.contents; segments = a.segments + b.segments; calls = a.calls + b.calls }

-- what each adds, together
unfoldable pub add_all : {A : Type 0} → (A → Added) → List A → Added
add_all f [] = nothing
add_all f (x ∷ xs) = add (f x) (add_all f xs)

pub same_added : {a b : Added} → a.contents ≡ b.contents → a.segments ≡ b.segments → a.calls ≡ b.calls → a ≡ b
same_added {a} {b} x y z = λ i. record { contents = x i; segments = y i; calls = z i }

pub add_nothing : (a : Added) → add a nothing ≡ a
unfolding add
add_nothing a = same_added (omega arith) (omega arith) (omega arith)

pub nothing_add : (a : Added) → add nothing a ≡ a
unfolding add
nothing_add a = same_added (omega arith) (omega arith) (omega arith)

pub add_assoc : (a b d : Added) → add (add a b) d ≡ add a (add b d)
unfolding add
add_assoc a b d = same_added (omega arith) (omega arith) (omega arith)

pub add_comm : (a b : Added) → add a b ≡ add b a
unfolding add
add_comm a b = same_added (omega arith) (omega arith) (omega arith)

pub all_append : {A : Type 0} (f : A → Added) (xs ys : List A) → add_all f (xs ++ ys) ≡ add (add_all f xs) (add_all f ys)
unfolding add_all
all_append f [] ys = sym (nothing_add (add_all f ys))
all_append f (x ∷ xs) ys = ap (add (f x)) (all_append f xs ys) ∙ sym (add_assoc (f x) (add_all f xs) (add_all f ys))
