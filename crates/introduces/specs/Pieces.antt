-- The old nodes some at a time, so that the filter is never crowded: what refers to none of the first nodes and to none of the next refers
-- to none of both.
use Rattle.std.specs.Prelude.{◌≡◌, ℕ, ◌+◌, ◌-◌, ◌*◌, ◌≤◌, Bool, ◌&&◌, ◌||◌}
use Rattle.std.proofs.Math.Path.{refl, ap₂}
use Rattle.std.proofs.Common.{sym, ap, ◌∙◌, arith}
use Rattle.std.proofs.Math.Bool.{true, false, and-false}
use mathlib.Core.List.{List, [], ◌∷◌, ◌++◌}
use Rattle.model.specs.Lists.{any}
use Rattle.model.specs.Types.{SourceNode}
use Rattle.model.specs.Store.{NodeStore}
use Rattle.model.specs.Tape.{records_at, node_codec}
use Rattle.model.specs.Region.{is_referenced_format, first_plain}
use Rattle.records.specs.Runs.{run_none}
use Rattle.dependency.specs.Bases.{among_bases}
use Rattle.dependency.specs.Pieces.{run_join, among_join, among_none}
use Rattle.introduces.specs.Linked.{refers_to}

-- ---- bases of both

module _ (st own : NodeStore) (a b : List SourceNode) where
  refers_join : (ns : List SourceNode) → any (refers_to st (a ++ b) own) ns ≡ any (refers_to st a own) ns || any (refers_to st b own) ns
  unfolding refers_to
  refers_join [] = refl
  refers_join (n ∷ ns) =
      ap₂ (λ (x y : Bool). (is_referenced_format n && x) || y) (among_join st a b (first_plain own n)) (refers_join ns)
      ∙ shuffle (is_referenced_format n) (among_bases st a (first_plain own n)) (among_bases st b (first_plain own n)) (any (refers_to st a own) ns) (any (refers_to st b own) ns)
    where
      shuffle : (r x y u v : Bool) → (r && (x || y)) || (u || v) ≡ ((r && x) || u) || ((r && y) || v)
      shuffle false x y u v = refl
      shuffle true true y u v = refl
      shuffle true false true false v = refl
      shuffle true false true true v = refl
      shuffle true false false u v = refl

-- ---- the loop: nothing refers to the first i nodes

pub record Unreferred (st own : NodeStore) (ns : List SourceNode) (t : List ℕ) (at i : ℕ) : Type 0 where
  pub none : any (refers_to st (records_at node_codec t at i) own) ns ≡ false

refers_none : (st own : NodeStore) (ns : List SourceNode) → any (refers_to st [] own) ns ≡ false
unfolding refers_to
refers_none st own [] = refl
refers_none st own (n ∷ ns) = rw (among_none st (first_plain own n), and-false) (refers_none st own ns)

pub unreferred_none : (st own : NodeStore) (ns : List SourceNode) (t : List ℕ) (at : ℕ) → Unreferred st own ns t at 0
unreferred_none st own ns t at = record {
  none = ap (λ (l : List SourceNode). any (refers_to st l own) ns) (run_none node_codec t at) ∙ refers_none st own ns;
}

pub unreferred_all : {st own : NodeStore} {ns : List SourceNode} {t : List ℕ} {at i : ℕ} → Unreferred st own ns t at i → (count : ℕ) → i ≡ count
    → false ≡ any (refers_to st (records_at node_codec t at count) own) ns
unreferred_all {st} {own} {ns} {t} {at} u count e = sym (ap (λ (k : ℕ). any (refers_to st (records_at node_codec t at k) own) ns) (sym e) ∙ u.none)

-- the answer of the next n nodes
module _ {st own : NodeStore} {ns : List SourceNode} {t : List ℕ} {at i : ℕ} (u : Unreferred st own ns t at i) (n : ℕ)
    {x : Bool} (e : x ≡ any (refers_to st (records_at node_codec t (at + 49 * i) n) own) ns) where
  both : any (refers_to st (records_at node_codec t at (i + n)) own) ns ≡ x
  both =
      ap (λ (l : List SourceNode). any (refers_to st l own) ns) (run_join t at i n)
      ∙ refers_join st own (records_at node_codec t at i) (records_at node_codec t (at + 49 * i) n) ns ∙ rw u.none (sym e)

  pub unreferred_more : x ≡ false → Unreferred st own ns t at (i + n)
  unreferred_more f = record { none = both ∙ f }

  pub referred_here : x ≡ true → (count : ℕ) → i + n ≤ count → true ≡ any (refers_to st (records_at node_codec t at count) own) ns
  referred_here f count h =
      let k : count ≡ i + n + (count - (i + n)) = omega arith in
      sym (ap (λ (m : ℕ). any (refers_to st (records_at node_codec t at m) own) ns) k
      ∙ ap (λ (l : List SourceNode). any (refers_to st l own) ns) (run_join t at (i + n) (count - (i + n)))
      ∙ refers_join st own (records_at node_codec t at (i + n)) (records_at node_codec t (at + 49 * (i + n)) (count - (i + n))) ns ∙ rw (both ∙ f) refl)
