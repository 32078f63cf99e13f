-- A list with more behind it: pools that are only added to.
use Rattle.std.specs.Prelude.{◌≡◌, ◌≤◌, List, [], ◌++◌, length}
use Rattle.std.proofs.Common.{sym, ap, ◌∙◌, arith, append_assoc, append-nil, length-append}

pub record Prefix {A : Type 0} (a b : List A) : Type 0 where
  pub more : List A
  pub grown : b ≡ a ++ more

module _ {A : Type 0} where
  pub prefix_refl : {a : List A} → Prefix a a
  prefix_refl {a} = record { more = []; grown = sym (append-nil a) }

  pub prefix_trans : {a b c : List A} → Prefix a b → Prefix b c → Prefix a c
  prefix_trans {a} p q = record { more = p.more ++ q.more; grown = q.grown ∙ ap (λ (l : List A). l ++ q.more) p.grown ∙ append_assoc a p.more q.more }

  pub prefix_length : {a b : List A} → Prefix a b → length a ≤ length b
  prefix_length {a} p = omega (arith, ap length p.grown, length-append a p.more)
