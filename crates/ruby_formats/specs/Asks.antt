-- The nodes whose targets number 10 and number 15 ask for.
use Rattle.std.specs.Prelude.{◌≡◌, Bool, true, false, cond, ◌||◌, ◌&&◌, List, ltb}
use Rattle.std.proofs.Math.Path.{refl, sym, ap}
use Rattle.std.proofs.Common.{◌∙◌}
use Prim.Native.Nat.{ℕ, zero, suc, ◌+◌, ◌-◌, ◌*◌, ◌≤◌, ◌<◌}
use native.Mathlib.Omega.{arith}
use Rattle.std.proofs.Math.Bool.{or-false}
use Rattle.model.specs.Types.{SourceNode}
use Rattle.model.specs.Tape.{record_at, node_codec}
use Rattle.model.specs.Region.{is_ruby, is_referenced_format}
use Rattle.facts.specs.Truth.{both, or_left, or_right, by_bool}
use Rattle.wire.specs.Loops.{any_up_to}
use Rattle.laws.specs.Nodes.{starts_at}

-- ---- one node

-- one that names a string: a Ruby its base, a Referenced Format its target
unfoldable pub names_one : SourceNode → Bool
names_one n = is_ruby n || is_referenced_format n

pub ruby_names : (n : SourceNode) {x : Bool} → x ≡ is_ruby n → x ≡ true → names_one n ≡ true
unfolding names_one
ruby_names n e h = or_left (is_ruby n) (is_referenced_format n) (sym e ∙ h)

pub format_names : (n : SourceNode) {x : Bool} → x ≡ is_referenced_format n → x ≡ true → names_one n ≡ true
unfolding names_one
format_names n e h = or_right (is_ruby n) (is_referenced_format n) (sym e ∙ h)

-- Number 10 asks for the target of this node: a Referenced Format that ends behind `from`.
unfoldable pub asks_target : ℕ → SourceNode → Bool
asks_target from n = is_referenced_format n && ltb from n.source_span.end

pub target_names : (n : SourceNode) (from : ℕ) {x : Bool} → x ≡ asks_target from n → x ≡ true → names_one n ≡ true
unfolding asks_target
target_names n from e h = format_names n refl (both (is_referenced_format n) (ltb from n.source_span.end) (sym e ∙ h)).0

-- a Referenced Format that starts at or behind an offset
unfoldable pub format_from : ℕ → SourceNode → Bool
format_from o n = is_referenced_format n && starts_at o n

-- ---- nodes in a run

-- node i of a run
unfoldable pub asks_at : ℕ → List ℕ → ℕ → ℕ → Bool
asks_at from t at i = asks_target from (record_at node_codec t (at + 49 * i))

-- how many there are of n up to the last that passes P
unfoldable pub count_to_last : ℕ → (ℕ → Bool) → ℕ
count_to_last zero P = 0
count_to_last (suc n) P = cond (P n) (suc n) (count_to_last n P)

-- ---- from the last on

module _ (P : ℕ → Bool) where
  pub last_here : (n : ℕ) → 0 < n → P (n - 1) ≡ true → n ≡ count_to_last n P
  unfolding count_to_last
  last_here zero h e = absurd (omega arith)
  last_here (suc n) h e = let k : suc n - 1 ≡ n = omega arith in sym (rw (sym (ap P k) ∙ e) refl)

  pub last_before : (n : ℕ) → 0 < n → P (n - 1) ≡ false → count_to_last (n - 1) P ≡ count_to_last n P
  unfolding count_to_last
  last_before zero h e = absurd (omega arith)
  last_before (suc n) h e = let k : suc n - 1 ≡ n = omega arith in ap (λ (m : ℕ). count_to_last m P) k ∙ sym (rw (sym (ap P k) ∙ e) refl)

  pub last_none : 0 ≡ count_to_last 0 P
  unfolding count_to_last
  last_none = refl

  pub last_most : (n : ℕ) → count_to_last n P ≤ n
  unfolding count_to_last
  last_most zero = omega arith
  last_most (suc n) =
      by_bool (P n)
      (λ e. rw e (omega arith))
      (λ e. let m = last_most n in rw e (omega (arith, m)))

  -- what holds at none but those that pass P
  pub last_any : (Q : ℕ → Bool) → ((i : ℕ) → P i ≡ false → Q i ≡ false) → (n : ℕ) → any_up_to (count_to_last n P) Q ≡ any_up_to n Q
  unfolding count_to_last any_up_to
  last_any Q f zero = refl
  last_any Q f (suc n) =
      by_bool (P n)
      (λ e. rw e refl)
      (λ e. rw e (last_any Q f n ∙ sym (ap (λ (b : Bool). any_up_to n Q || b) (f n e) ∙ or-false (any_up_to n Q))))
