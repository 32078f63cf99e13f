-- What a node does to the depth of blocks or of warichus, and the depths behind and before it.
use Prim.Native.Nat.{ℕ, ◌+◌, ◌-◌}
use Rattle.std.specs.Prelude.{◌≡◌, Bool, true, false, cond, ◌&&◌, ◌||◌, eqb, ltb}
use Rattle.std.proofs.Math.Path.{refl}
use Rattle.std.proofs.Math.Bool.{and-false}
use borrow.Author.Tests.{eqb-true}
use Rattle.model.specs.Types.{SourceNode}
use Rattle.model.specs.Region.{is_block_open, is_block_close, is_warichu_open, is_warichu_close, depth_behind}
use Rattle.facts.specs.Truth.{both, by_bool}
use Rattle.cuts.specs.declared.Effect.{Effect}
use Rattle.cuts.specs.declared.Effect.TheVariants.{Opens, Closes, Neither}
use Rattle.cuts.specs.Gaps.{closes_nothing}

-- by the tests that say which nodes open and which close
unfoldable pub effect_of : (SourceNode → Bool) → (SourceNode → Bool) → SourceNode → Effect
effect_of opens closes n = cond (opens n) Opens (cond (closes n) Closes Neither)

unfoldable pub behind : Effect → ℕ → ℕ
behind Opens d = d + 1
behind Closes d = d - 1
behind Neither d = d

unfoldable pub before : Effect → ℕ → ℕ
before Opens d = d - 1
before Closes d = d + 1
before Neither d = d

unfoldable pub is_unopened : Effect → ℕ → Bool
is_unopened Opens d = false
is_unopened Closes d = eqb d 0
is_unopened Neither d = false

-- a node that closes what none has opened
unfoldable pub closes_unopened : ℕ → ℕ → SourceNode → Bool
closes_unopened blocks warichu n = closes_nothing (is_block_close n) blocks || closes_nothing (is_warichu_close n) warichu

pub no_block_both : (n : SourceNode) → is_block_open n ≡ true → is_block_close n ≡ false
no_block_both n e = let q = eqb-true n.class 2 e in rw q refl

pub no_warichu_both : (n : SourceNode) → is_warichu_open n ≡ true → is_warichu_close n ≡ false
no_warichu_both n e =
    let q = eqb-true n.body.tag 4 (both (ltb n.class 2 && eqb n.body.kind 13) (eqb n.body.tag 4) e).1 in
    rw (q, and-false) refl

module _ (opens closes : SourceNode → Bool) (n : SourceNode) (d : ℕ) where
  behind_effect : behind (effect_of opens closes n) d ≡ depth_behind opens closes d n
  unfolding effect_of behind depth_behind
  behind_effect =
      by_bool (opens n) (λ e. rw e refl) (λ e. by_bool (closes n) (λ f. rw (e, f) refl) (λ f. rw (e, f) refl))

  module _ (x : opens n ≡ true → closes n ≡ false) where
    before_effect : before (effect_of opens closes n) d ≡ depth_behind closes opens d n
    unfolding effect_of before depth_behind
    before_effect =
        by_bool (opens n) (λ e. rw (e, x e) refl) (λ e. by_bool (closes n) (λ f. rw (e, f) refl) (λ f. rw (e, f) refl))

    unopened_effect : is_unopened (effect_of opens closes n) d ≡ closes_nothing (closes n) d
    unfolding effect_of is_unopened closes_nothing
    unopened_effect =
        by_bool (opens n) (λ e. rw (e, x e) refl) (λ e. by_bool (closes n) (λ f. rw (e, f) refl) (λ f. rw (e, f) refl))

-- the code's answers
module _ (n : SourceNode) (d : ℕ) where
  pub block_behind : behind (effect_of is_block_open is_block_close n) d ≡ depth_behind is_block_open is_block_close d n
  block_behind = behind_effect is_block_open is_block_close n d

  pub warichu_behind : behind (effect_of is_warichu_open is_warichu_close n) d ≡ depth_behind is_warichu_open is_warichu_close d n
  warichu_behind = behind_effect is_warichu_open is_warichu_close n d

  pub block_before : before (effect_of is_block_open is_block_close n) d ≡ depth_behind is_block_close is_block_open d n
  block_before = before_effect is_block_open is_block_close n d (no_block_both n)

  pub warichu_before : before (effect_of is_warichu_open is_warichu_close n) d ≡ depth_behind is_warichu_close is_warichu_open d n
  warichu_before = before_effect is_warichu_open is_warichu_close n d (no_warichu_both n)

  pub block_unopened : is_unopened (effect_of is_block_open is_block_close n) d ≡ closes_nothing (is_block_close n) d
  block_unopened = unopened_effect is_block_open is_block_close n d (no_block_both n)

  pub warichu_unopened : is_unopened (effect_of is_warichu_open is_warichu_close n) d ≡ closes_nothing (is_warichu_close n) d
  warichu_unopened = unopened_effect is_warichu_open is_warichu_close n d (no_warichu_both n)
