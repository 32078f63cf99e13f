-- A string in quotes, as a reader of a line sees it.
use Rattle.std.specs.Prelude.{◌≡◌, ℕ, ◌+◌, ◌/◌, ◌%◌, ◌<◌, Bool, true, false, cond, ◌&&◌, not, length, get_or, take, leb, eqb}
use Rattle.std.proofs.Math.Path.{refl}
use Rattle.std.proofs.Common.{sym, ap, ◌∙◌, add-one, take-suc}
use mathlib.Core.List.{List, [], ◌∷◌, ◌++◌, map, flatten}
use borrow.Author.Tests.{ne_eqb}
use Rattle.model.specs.Lists.{ascii}
use Rattle.io.specs.Digits.{hex_digit_ascii}
use Rattle.facts.specs.Lists.{map_append, flatten_snoc}

-- A byte that stands for itself: not a control character. UTF-8 is left as it is.
unfoldable pub is_plain : ℕ → Bool
is_plain b = leb 32 b && not (eqb b 127)

-- Newline as \n, quote and backslash behind a backslash, other control characters as \x and two digits in base 16.
unfoldable pub escaped : ℕ → List ℕ
escaped b =
    cond (eqb b 10) (ascii "\\n")
    (cond (eqb b 34) (ascii "\\\"")
    (cond (eqb b 92) (ascii "\\\\")
    (cond (is_plain b) (b ∷ []) (ascii "\\x" ++ (hex_digit_ascii (b / 16) ∷ hex_digit_ascii (b % 16) ∷ [])))))

unfoldable pub escapes : List ℕ → List ℕ
escapes s = flatten (map escaped s)

unfoldable pub quoted : List ℕ → List ℕ
quoted s = ascii "\"" ++ (escapes s ++ ascii "\"")

-- ---- the returns of the code

module _ (b : ℕ) where
  pub escaped_newline : b ≡ 10 → ascii "\\n" ≡ escaped b
  unfolding escaped
  escaped_newline e = rw e refl

  pub escaped_quote : b ≡ 34 → ascii "\\\"" ≡ escaped b
  unfolding escaped
  escaped_quote e = rw e refl

  pub escaped_backslash : b ≡ 92 → ascii "\\\\" ≡ escaped b
  unfolding escaped
  escaped_backslash e = rw e refl

  module _ (p : b ≡ 10 → ⊥) (q : b ≡ 34 → ⊥) (r : b ≡ 92 → ⊥) {x : Bool} (e : x ≡ is_plain b) where
    pub escaped_plain : x ≡ true → b ∷ [] ≡ escaped b
    unfolding escaped
    escaped_plain g = rw (ne_eqb b 10 p, ne_eqb b 34 q, ne_eqb b 92 r, ← e, g) refl

    pub escaped_control : x ≡ false → {y : List ℕ} → y ≡ ascii "\\x" ++ (hex_digit_ascii (b / 16) ∷ hex_digit_ascii (b % 16) ∷ []) → y ≡ escaped b
    unfolding escaped
    escaped_control g h = h ∙ rw (ne_eqb b 10 p, ne_eqb b 34 q, ne_eqb b 92 r, ← e, g) refl

-- ---- the loop

pub escapes_more : (s : List ℕ) (i : ℕ) → i < length s → escapes (take i s) ++ escaped (get_or s i 0) ≡ escapes (take (i + 1) s)
unfolding escapes
escapes_more s i h =
    sym (flatten_snoc (map escaped (take i s)) (escaped (get_or s i 0)))
    ∙ ap flatten (sym (map_append escaped (take i s) (get_or s i 0 ∷ [])) ∙ ap (map escaped) (sym (take-suc s i 0 h) ∙ ap (λ (k : ℕ). take k s) (sym (add-one i))))
