-- The nodes until an offset, which end at or before it: the first of a book's, since nodes are in order. Their images and spans are the
-- drift of `normalized_offset`.
use Rattle.std.specs.Prelude.{◌≡◌, refl, Bool, true, false, List, ◌∷◌, map, Option, Some, None, MatchOption}
use Rattle.std.specs.Option.{unwrap_or}
use Rattle.std.proofs.Math.Path.{sym, ap, ap₂}
use Rattle.std.proofs.Common.{◌∙◌}
use Prim.Native.Nat.{ℕ, zero, suc, ◌+◌, ◌-◌, ◌*◌, ◌≤◌, ◌<◌}
use native.Mathlib.Omega.{arith}
use borrow.Author.Tests.{le-leb, lt-leb}
use Rattle.model.specs.Lists.{keep, tabulate, sum}
use Rattle.model.specs.Types.{SourceNode}
use Rattle.model.specs.Tape.{record_at, records_at, node_codec}
use Rattle.model.specs.WellFormed.{image_length, span_length, images, spans}
use Rattle.model.specs.Merge.{normalized_offset}
use Rattle.facts.specs.Keep.{all_keep, all_keep_self}
use Rattle.laws.specs.Ordered.{take_while, keep_ends_by}
use Rattle.laws.specs.Nodes.{ends_by, ordered_keep, spans_within}
use Rattle.wire.specs.Loops.{Passed, sum_to, sum_more, sum_mono, sum_tabulate}
use Rattle.bounds.specs.Walk.{image_small}
use Rattle.bounds.specs.Search.{InOrder}

-- ---- the first nodes

-- does the node numbered i of the run end at or before an offset?
unfoldable pub ends_at : List ℕ → ℕ → ℕ → ℕ → Bool
ends_at t at o i = ends_by o (record_at node_codec t (at + 49 * i))

-- the first n nodes of a run of `count` are those that end at or before an offset
pub record Until (t : List ℕ) (at count o n : ℕ) : Type 0 where
  pub within : n ≤ count
  pub are : records_at node_codec t at n ≡ keep (ends_by o) (records_at node_codec t at count)

while_tabulate : (p : SourceNode → Bool) (n r : ℕ) (f : ℕ → SourceNode) → r ≤ n → ((k : ℕ) → k < r → p (f k) ≡ true) → (r < n → p (f r) ≡ false)
    → take_while p (tabulate n f) ≡ tabulate r f
while_tabulate p zero r f h passes fails = let e : r ≡ 0 = omega arith in rw e refl
while_tabulate p (suc n) zero f h passes fails = rw (fails (omega arith)) refl
while_tabulate p (suc n) (suc r) f h passes fails =
    rw (passes 0 (omega arith))
    (ap (λ (l : List SourceNode). f 0 ∷ l)
    (while_tabulate p n r (λ k. f (suc k)) (omega arith) (λ k b. passes (suc k) (omega arith)) (λ b. fails (omega arith))))

module _ (t : List ℕ) (at o : ℕ) where
  until_is : {count : ℕ} → InOrder (records_at node_codec t at count) → (i : ℕ) → i ≤ count → Passed (ends_at t at o) i → (i < count → ends_at t at o i ≡ false) → Until t at count o i
  unfolding records_at node_codec ends_at
  until_is {count} s i h p f = record {
    within = h;
    are =
        sym (keep_ends_by s.size o 0 (records_at node_codec t at count) s.inside s.order
        ∙ while_tabulate (ends_by o) count i (λ (k : ℕ). record_at node_codec t (at + 49 * k)) h p.all f);
  }

  -- the end of the node numbered i
  abbrev pub end_at : ℕ → ℕ
  end_at i = (record_at node_codec t (at + 49 * i)).source_span.end

  ends_before : (i : ℕ) → end_at i ≤ o → ends_at t at o i ≡ true
  unfolding ends_at
  ends_before i h = le-leb (end_at i) o h

  ends_behind : (i : ℕ) → o < end_at i → ends_at t at o i ≡ false
  unfolding ends_at
  ends_behind i h = lt-leb (end_at i) o h

  -- the first node that ends behind the offset, as `find` gives it
  pub until_found : {count : ℕ} → InOrder (records_at node_codec t at count) → (r : Option ℕ)
      → MatchOption r ((k : ℕ) → 0 ≤ k → k < count → end_at k ≤ o) (λ i. (0 ≤ i) × (i < count) × (o < end_at i) × ((k : ℕ) → 0 ≤ k → k < i → end_at k ≤ o))
      → Until t at count o (unwrap_or r count)
  until_found {count} s None h = until_is s count (omega arith) (record { all = λ k l. ends_before k (h k (omega arith) l) }) (λ k. absurd (omega arith))
  until_found s (Some i) h = until_is s i (omega (arith, h.1)) (record { all = λ k l. ends_before k (h.3 k (omega arith) l) }) (λ k. ends_behind i h.2)

-- ---- their images and spans

unfoldable pub image_at : List ℕ → ℕ → ℕ → ℕ
image_at t at i = image_length (record_at node_codec t (at + 49 * i))

unfoldable pub span_at : List ℕ → ℕ → ℕ → ℕ
span_at t at i = span_length (record_at node_codec t (at + 49 * i))

map_tabulate : (g : SourceNode → ℕ) (n : ℕ) (f : ℕ → SourceNode) → map g (tabulate n f) ≡ tabulate n (λ (i : ℕ). g (f i))
map_tabulate g zero f = refl
map_tabulate g (suc n) f = ap (λ (l : List ℕ). g (f 0) ∷ l) (map_tabulate g n (λ i. f (suc i)))

sum_run : (g : SourceNode → ℕ) (t : List ℕ) (at n : ℕ) → sum (map g (records_at node_codec t at n)) ≡ sum_to n (λ (i : ℕ). g (record_at node_codec t (at + 49 * i)))
unfolding records_at node_codec
sum_run g t at n =
    ap sum (map_tabulate g n (λ (i : ℕ). record_at node_codec t (at + 49 * i))) ∙ sym (sum_tabulate n (λ (i : ℕ). g (record_at node_codec t (at + 49 * i))))

module _ (t : List ℕ) (at : ℕ) where
  images_run : (n : ℕ) → images (records_at node_codec t at n) ≡ sum_to n (image_at t at)
  unfolding images image_at
  images_run n = sum_run image_length t at n

  spans_run : (n : ℕ) → spans (records_at node_codec t at n) ≡ sum_to n (span_at t at)
  unfolding spans span_at
  spans_run n = sum_run span_length t at n

  images_small_lem : (n : ℕ) → sum_to n (image_at t at) ≤ 7 * n
  unfolding sum_to image_at
  images_small_lem zero = omega arith
  images_small_lem (suc n) = let a = images_small_lem n in let b = image_small (record_at node_codec t (at + 49 * n)) in omega (arith, a, b)

  -- spans that end at or before an offset, one behind the other
  spans_small_lem : {count o n : ℕ} → InOrder (records_at node_codec t at count) → Until t at count o n → sum_to n (span_at t at) ≤ o
  spans_small_lem {count} {o} {n} s u =
      let ns = records_at node_codec t at count in
      let b = spans_within s.size o 0 (omega arith) (keep (ends_by o) ns) (ordered_keep s.size (ends_by o) 0 ns s.inside s.order)
      (all_keep _ (ends_by o) ns s.inside) (all_keep_self (ends_by o) ns) in
      omega (arith, b, ap spans u.are, spans_run n)

-- ---- the loop: the sums of i nodes

pub record Summed (t : List ℕ) (at n i im sp : ℕ) : Type 0 where
  pub within : i ≤ n
  pub images : im ≡ sum_to i (image_at t at)
  pub spans : sp ≡ sum_to i (span_at t at)

pub summed_none : (t : List ℕ) (at n : ℕ) → Summed t at n 0 0 0
unfolding sum_to
summed_none t at n = record { within = omega arith; images = refl; spans = refl }

module _ {t : List ℕ} {at n i im sp : ℕ} (w : Summed t at n i im sp) where
  module _ (h : i < n) {image : ℕ} (p : image ≡ image_length (record_at node_codec t (at + 49 * i))) where
    pub summed_image : im + image ≤ 7 * n
    unfolding image_at
    summed_image = let m = sum_mono (image_at t at) n i h in omega (arith, w.images, p, m, images_small_lem t at n)

    module _ {span : ℕ} (q : span ≡ span_length (record_at node_codec t (at + 49 * i))) where
      pub summed_span : {count o : ℕ} → InOrder (records_at node_codec t at count) → Until t at count o n → sp + span ≤ o
      unfolding span_at
      summed_span s u = let m = sum_mono (span_at t at) n i h in omega (arith, w.spans, q, m, spans_small_lem t at s u)

      pub summed_more : Summed t at n (i + 1) (im + image) (sp + span)
      unfolding image_at span_at
      summed_more = record {
        within = omega arith;
        images = ap₂ (λ (x y : ℕ). x + y) w.images p ∙ sym (sum_more (image_at t at) i);
        spans = ap₂ (λ (x y : ℕ). x + y) w.spans q ∙ sym (sum_more (span_at t at) i);
      }

  pub summed_sums : i ≡ n → {count o : ℕ} → InOrder (records_at node_codec t at count) → Until t at count o n
      → (im ≤ 7 * n) × (sp ≤ o)
  summed_sums e s u =
      let a = ap (λ (k : ℕ). sum_to k (image_at t at)) e in
      let b = ap (λ (k : ℕ). sum_to k (span_at t at)) e in
      (omega (arith, w.images, a, images_small_lem t at n), omega (arith, w.spans, b, spans_small_lem t at s u))

  pub summed_offset : i ≡ n → {count o : ℕ} → Until t at count o n → {r : ℕ} → r ≡ o + im - sp → r ≡ normalized_offset (records_at node_codec t at count) o
  unfolding normalized_offset
  summed_offset e {count} {o} u q =
      let a = w.images ∙ ap (λ (k : ℕ). sum_to k (image_at t at)) e ∙ sym (images_run t at n) ∙ ap images u.are in
      let b = w.spans ∙ ap (λ (k : ℕ). sum_to k (span_at t at)) e ∙ sym (spans_run t at n) ∙ ap spans u.are in
      q ∙ ap₂ (λ (x y : ℕ). o + x - y) a b
