-- Number 13, as the code goes: both depths in one walk over the nodes.
use Rattle.std.specs.Prelude.{◌≡◌, Bool, not, ◌&&◌, ◌||◌, List, [], ◌∷◌}
use Rattle.std.proofs.Math.Path.{refl, ap}
use Rattle.std.proofs.Common.{sym, ap₂, ◌∙◌}
use Prim.Native.Nat.{ℕ, suc, ◌+◌, ◌-◌, ◌*◌, ◌≤◌, ◌<◌}
use native.Mathlib.Omega.{arith}
use Rattle.std.proofs.Math.Bool.{true, false, and-false}
use Rattle.std.proofs.lemmas.Bool.{false≢true}
use Rattle.std.proofs.Math.Dec.{eqb}
use Rattle.model.specs.Types.{SourceNode}
use Rattle.model.specs.Tape.{record_at, records_at, node_codec}
use Rattle.model.specs.Region.{is_block_open, is_block_close, is_warichu_open, is_warichu_close, depth_behind}
use Rattle.model.specs.Merge.{balanced_from, balanced_nodes}
use Rattle.records.specs.Runs.{run_cons, run_none}
use Rattle.cuts.specs.Gaps.{depths_zero, depth_small}
use Rattle.cuts.specs.Gaps.{closes_nothing}
use Rattle.cuts.specs.Depths.{closes_unopened}

-- ---- number 13

-- from these depths on
unfoldable pub balanced_both : ℕ → ℕ → List SourceNode → Bool
balanced_both blocks warichu ns = balanced_from is_block_open is_block_close blocks ns && balanced_from is_warichu_open is_warichu_close warichu ns

module _ (blocks warichu : ℕ) where
  both_none : balanced_both blocks warichu [] ≡ depths_zero blocks warichu
  unfolding balanced_both balanced_from
  both_none = refl

  module _ (n : SourceNode) (ns : List SourceNode) where
    both_unopened : closes_unopened blocks warichu n ≡ true → balanced_both blocks warichu (n ∷ ns) ≡ false
    unfolding balanced_both balanced_from closes_unopened closes_nothing
    both_unopened e = go (is_block_close n && eqb blocks 0) (is_warichu_close n && eqb warichu 0) _ _ e
      where
        go : (x y u v : Bool) → x || y ≡ true → (not x && u) && (not y && v) ≡ false
        go true y u v h = refl
        go false true u v h = and-false u
        go false false u v h = absurd (false≢true h)

    both_next : closes_unopened blocks warichu n ≡ false
        → balanced_both blocks warichu (n ∷ ns) ≡ balanced_both (depth_behind is_block_open is_block_close blocks n) (depth_behind is_warichu_open is_warichu_close warichu n) ns
    unfolding balanced_both balanced_from closes_unopened closes_nothing
    both_next e = go (is_block_close n && eqb blocks 0) (is_warichu_close n && eqb warichu 0) _ _ e
      where
        go : (x y u v : Bool) → x || y ≡ false → (not x && u) && (not y && v) ≡ u && v
        go false false u v h = refl
        go true y u v h = absurd (false≢true (sym h))
        go false true u v h = absurd (false≢true (sym h))

-- i nodes are passed, and what is left answers as the whole
pub record Balanced (t : List ℕ) (at count i blocks warichu : ℕ) : Type 0 where
  pub within : i ≤ count
  pub blocks_small : blocks ≤ i
  pub warichu_small : warichu ≤ i
  pub rest : balanced_both blocks warichu (records_at node_codec t (at + 49 * i) (count - i)) ≡ balanced_nodes (records_at node_codec t at count)

pub balanced_none : (t : List ℕ) (at count : ℕ) → Balanced t at count 0 0 0
unfolding balanced_both balanced_nodes
balanced_none t at count =
    let e₁ : at + 49 * 0 ≡ at = omega arith in
    let e₂ : count - 0 ≡ count = omega arith in
    record { within = omega arith; blocks_small = omega arith; warichu_small = omega arith; rest = rw (e₁, e₂) refl }

module _ {t : List ℕ} {at count i blocks warichu : ℕ} (w : Balanced t at count i blocks warichu) where
  pub balanced_done : count ≤ i → {x : Bool} → x ≡ depths_zero blocks warichu → x ≡ balanced_nodes (records_at node_codec t at count)
  balanced_done h e =
      let z : count - i ≡ 0 = omega arith in
      let none : records_at node_codec t (at + 49 * i) (count - i) ≡ [] = ap (λ (k : ℕ). records_at node_codec t (at + 49 * i) k) z ∙ run_none node_codec t (at + 49 * i) in
      e ∙ sym (ap (balanced_both blocks warichu) none ∙ both_none blocks warichu) ∙ w.rest

  module _ (h : i < count) {x : Bool} (q : x ≡ closes_unopened blocks warichu (record_at node_codec t (at + 49 * i))) where
    nodes_next : records_at node_codec t (at + 49 * i) (count - i) ≡ (record_at node_codec t (at + 49 * i) ∷ records_at node_codec t (at + 49 * (i + 1)) (count - (i + 1)))
    unfolding node_codec
    nodes_next =
        let e : count - i ≡ suc (count - (i + 1)) = omega arith in
        ap (λ (k : ℕ). records_at node_codec t (at + 49 * i) k) e ∙ run_cons node_codec t (count - (i + 1)) (at + 49 * i) (at + 49 * (i + 1)) (omega arith)

    pub balanced_fails : x ≡ true → false ≡ balanced_nodes (records_at node_codec t at count)
    balanced_fails e =
        sym (ap (balanced_both blocks warichu) nodes_next ∙ both_unopened blocks warichu (record_at node_codec t (at + 49 * i)) _ (sym q ∙ e)) ∙ w.rest

    pub balanced_more : x ≡ false → {b d : ℕ} → b ≡ depth_behind is_block_open is_block_close blocks (record_at node_codec t (at + 49 * i))
        → d ≡ depth_behind is_warichu_open is_warichu_close warichu (record_at node_codec t (at + 49 * i)) → Balanced t at count (i + 1) b d
    balanced_more e f g =
        let n = record_at node_codec t (at + 49 * i) in
        let a = depth_small is_block_open is_block_close blocks n in
        let c = depth_small is_warichu_open is_warichu_close warichu n in
        record {
          within = omega arith;
          blocks_small = omega (arith, a, f, w.blocks_small);
          warichu_small = omega (arith, c, g, w.warichu_small);
          rest =
              ap₂ (λ (u v : ℕ). balanced_both u v (records_at node_codec t (at + 49 * (i + 1)) (count - (i + 1)))) f g
              ∙ sym (ap (balanced_both blocks warichu) nodes_next ∙ both_next blocks warichu n _ (sym q ∙ e)) ∙ w.rest;
        }
