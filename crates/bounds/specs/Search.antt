-- The node at an offset, by halves.
use Rattle.std.specs.Prelude.{Option, Some, None, ℕ, zero, suc, ◌+◌, ◌*◌, ◌≤◌, ◌<◌, ◌≡◌, refl, Bool, true, false, cond, ◌&&◌, List, length, ltb}
use Rattle.std.proofs.Common.{arith, eq-or-lt_of_le, le_trans, le_refl, lt_of_lt_of_le, ⊎_elim, ◌∙◌}
use Rattle.std.proofs.Math.Path.{sym, ap}
use Rattle.std.proofs.Math.Option.{Option as ModelOption, none, some}
use Rattle.std.proofs.Math.ListN.{get_elem?}
use Rattle.std.proofs.Math.Dec.{leb}
use borrow.Author.Tests.{le-leb, lt-leb, lt-ltb, le-ltb, leb-true, ltb-true}
use Rattle.model.specs.Lists.{all, keep, tabulate}
use Rattle.model.specs.Types.{SourceNode, LexOutput}
use Rattle.model.specs.Tape.{record_at, records_at, node_codec}
use Rattle.model.specs.WellFormed.{span_ok, ordered, offsets_ok}
use Rattle.model.specs.Lookup.{node_at_source, last_of, ends_behind}
use Rattle.facts.specs.Truth.{both}
use Rattle.laws.specs.Checks.{PlaceFacts}
use Rattle.bounds.specs.Walk.{node_inside, nodes_in_place}

-- the model's answer as the code's
unfoldable pub found_of : ModelOption ℕ → Option ℕ
found_of none = None
found_of (some i) = Some i

-- where the node numbered i of the run starts
unfoldable pub start_of : List ℕ → ℕ → ℕ → ℕ
start_of t at i = (record_at node_codec t (at + 49 * i)).source_span.start

-- what number 6 tells of the nodes of a book
pub record InOrder (ns : List SourceNode) : Type 0 where
  pub size : ℕ
  pub inside : all (node_inside size) ns ≡ true
  pub order : ordered 0 ns ≡ true

-- the indices before lo are by x, those from hi on behind x
pub record Split (f : ℕ → ℕ) (count x lo hi : ℕ) : Type 0 where
  pub order : lo ≤ hi
  pub within : hi ≤ count
  pub by : (k : ℕ) → k < lo → f k ≤ x
  pub behind : (k : ℕ) → hi ≤ k → k < count → x < f k

pub record Sorted (f : ℕ → ℕ) (count : ℕ) : Type 0 where
  pub next : (i : ℕ) → suc i < count → f i ≤ f (suc i)

sorted_mono : (f : ℕ → ℕ) (count : ℕ) → Sorted f count → (i j : ℕ) → i ≤ j → j < count → f i ≤ f j
sorted_mono f count so i zero h b = let e : i ≡ 0 = omega arith in rw e (le_refl _)
sorted_mono f count so i (suc j) h b =
    ⊎_elim
    (λ (e : i ≡ suc j). rw e (le_refl _))
    (λ (l : i < suc j). le_trans (sorted_mono f count so i j (omega arith) (omega arith)) (so.next j (omega arith)))
    (eq-or-lt_of_le h)

pub split_start : (f : ℕ → ℕ) (count x : ℕ) → Split f count x 0 count
split_start f count x = record {
  order = omega arith;
  within = omega arith;
  by = λ k h. absurd (omega arith);
  behind = λ k a b. absurd (omega arith);
}

module _ {f : ℕ → ℕ} {count x lo hi : ℕ} (so : Sorted f count) (l : Split f count x lo hi) (m : ℕ) (a : lo ≤ m) (b : m < hi) where
  inside : m < count
  inside = let w = l.within in omega arith

  pub split_up : f m ≤ x → Split f count x (m + 1) hi
  split_up h = record {
    order = omega arith;
    within = l.within;
    behind = l.behind;
    by = λ k j. le_trans (sorted_mono f count so k m (omega arith) inside) h;
  }

  pub split_down : x < f m → Split f count x lo m
  split_down h = record {
    order = a;
    within = omega (arith, inside);
    by = l.by;
    behind = λ k j e. lt_of_lt_of_le h (sorted_mono f count so m k j e);
  }

-- ---- nodes in order start in order

ordered_next : (n : ℕ) (g : ℕ → SourceNode) (size from : ℕ) → all (node_inside size) (tabulate n g) ≡ true → ordered from (tabulate n g) ≡ true
    → (i : ℕ) → suc i < n → (g i).source_span.start ≤ (g (suc i)).source_span.start
unfolding ordered span_ok
ordered_next zero g size from a o i h = absurd (omega arith)
ordered_next (suc zero) g size from a o i h = absurd (omega arith)
ordered_next (suc (suc n)) g size from a o zero h =
    let rest = (both (leb from (g 0).source_span.start) _ o).1 in
    let apart = leb-true (g 0).source_span.end (g 1).source_span.start (both _ _ rest).0 in
    let rises = ltb-true (g 0).source_span.start (g 0).source_span.end (both _ (leb (g 0).source_span.end size) (both (node_inside size (g 0)) _ a).0).0 in
    omega arith
ordered_next (suc (suc n)) g size from a o (suc i) h =
    ordered_next (suc n) (λ k. g (suc k)) size (g 0).source_span.end (both (node_inside size (g 0)) _ a).1 (both (leb from (g 0).source_span.start) _ o).1 i (omega arith)

pub in_order_sorted : (t : List ℕ) (at count : ℕ) → InOrder (records_at node_codec t at count) → Sorted (start_of t at) count
unfolding records_at start_of node_codec
in_order_sorted t at count q = record { next = ordered_next count (λ (i : ℕ). record_at node_codec t (at + 49 * i)) q.size 0 q.inside q.order }

-- ---- where the halves meet: the answer

kept_count : (p : SourceNode → Bool) (n r : ℕ) (g : ℕ → SourceNode) → r ≤ n → ((k : ℕ) → k < r → p (g k) ≡ true) → ((k : ℕ) → r ≤ k → k < n → p (g k) ≡ false)
    → length (keep p (tabulate n g)) ≡ r
kept_count p zero r g h below past = omega arith
kept_count p (suc n) zero g h below past =
    rw (past 0 (omega arith) (omega arith)) (kept_count p n zero (λ k. g (suc k)) (omega arith) (λ k b. absurd (omega arith)) (λ k a b. past (suc k) (omega arith) (omega arith)))
kept_count p (suc n) (suc r) g h below past =
    rw (below 0 (omega arith))
    (ap suc (kept_count p n r (λ k. g (suc k)) (omega arith) (λ k b. below (suc k) (omega arith)) (λ k a b. past (suc k) (omega arith) (omega arith))))

element_tabulate : (n i : ℕ) (g : ℕ → SourceNode) → i < n → get_elem? (tabulate n g) i ≡ some (g i)
element_tabulate zero i g h = absurd (omega arith)
element_tabulate (suc n) zero g h = refl
element_tabulate (suc n) (suc i) g h = element_tabulate n i (λ k. g (suc k)) (omega arith)

module _ (t : List ℕ) (at : ℕ) {count o r : ℕ} (l : Split (start_of t at) count o r r) where
  met : length (keep (λ (n : SourceNode). leb n.source_span.start o) (records_at node_codec t at count)) ≡ r
  unfolding records_at start_of node_codec
  met =
      kept_count (λ (n : SourceNode). leb n.source_span.start o) count r (λ (i : ℕ). record_at node_codec t (at + 49 * i)) l.within
      (λ k h. le-leb _ _ (l.by k h)) (λ k a b. lt-leb _ _ (l.behind k a b))

  pub node_none : r ≡ 0 → None ≡ found_of (node_at_source (records_at node_codec t at count) o)
  unfolding node_at_source last_of found_of
  node_none e = sym (ap (λ (k : ℕ). found_of (last_of (records_at node_codec t at count) o k)) (met ∙ e))

  last_one : (i : ℕ) → r ≡ suc i → node_at_source (records_at node_codec t at count) o ≡ cond (ltb o (record_at node_codec t (at + 49 * i)).source_span.end) (some i) none
  unfolding node_at_source last_of ends_behind records_at node_codec
  last_one i e =
      let w = l.within in
      ap (λ (k : ℕ). last_of (records_at node_codec t at count) o k) (met ∙ e)
      ∙ ap (ends_behind o i) (element_tabulate count i (λ (j : ℕ). record_at node_codec t (at + 49 * j)) (omega arith))

  -- the code has i and the node's end
  module _ (i : ℕ) (e : r ≡ suc i) (end : ℕ) (q : end ≡ (record_at node_codec t (at + 49 * i)).source_span.end) where
    pub node_there : o < end → Some i ≡ found_of (node_at_source (records_at node_codec t at count) o)
    unfolding found_of
    node_there h = sym (ap found_of (last_one i e) ∙ rw (← q, lt-ltb o end h) refl)

    pub node_past : end ≤ o → None ≡ found_of (node_at_source (records_at node_codec t at count) o)
    unfolding found_of
    node_past h = sym (ap found_of (last_one i e) ∙ rw (← q, le-ltb o end h) refl)

-- ---- nodes that the walk accepted, or a book that passed number 6, are in order

pub placed_in_order : (size : ℕ) (ns : List SourceNode) → nodes_in_place size ns ≡ true → InOrder ns
placed_in_order size ns e =
    let a = both (all (node_inside size) ns && ordered 0 ns) (offsets_ok 0 0 ns) e in
    let b = both (all (node_inside size) ns) (ordered 0 ns) a.0 in
    record { size = size; inside = b.0; order = b.1 }

pub book_in_order : (b : LexOutput) → PlaceFacts b → InOrder b.source_nodes
book_in_order b f = record { size = length b.sanitized; inside = f.source_spans; order = f.order }
