-- A pool of one layer, which begins at 0: each range up to its end lies in that layer.
use Rattle.std.specs.Prelude.{◌≡◌, ℕ, ◌+◌, ◌≤◌, true, List, get_or, eqb}
use Rattle.std.proofs.Math.Path.{refl}
use Rattle.std.proofs.Common.{arith}
use borrow.Author.Tests.{le-leb}
use Rattle.facts.specs.Truth.{by_bool}
use Rattle.wire.specs.Loops.{any_up_to}
use Rattle.store.specs.Pools.{range_in, in_one, in_layer, layer_of}

module _ (starts : List ℕ) (layers : ℕ) (one : layers ≡ 1) (first : get_or starts 0 0 ≡ 0) where
  pub only_range : (total start len : ℕ) → start + len ≤ total → range_in starts layers total start len ≡ true
  unfolding range_in in_one in_layer any_up_to
  only_range total start len h =
      rw (one, first, le-leb 0 start (omega arith), le-leb (start + len) total h) (by_bool (eqb len 0) (λ z. rw z refl) (λ z. rw z refl))

  pub only_layer : (i : ℕ) → layer_of starts layers i ≡ 0
  unfolding layer_of
  only_layer i = rw (one, first, le-leb 0 i (omega arith)) refl
