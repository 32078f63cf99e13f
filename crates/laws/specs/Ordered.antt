-- Nodes of an accepted book are ordered, so those that pass a test of their place are a first or a last part of the list. The
-- Rust takes them by `take_while`, `skip_while`, `break` and `partition_point`; the definitions keep them by the test.
use Rattle.std.specs.Prelude.{◌≡◌, ℕ, ◌≤◌, ◌<◌, Bool, true, false, cond, leb, ltb}
use Rattle.std.proofs.Math.Path.{refl}
use Rattle.std.proofs.Common.{ap, arith}
use mathlib.Core.List.{List, [], ◌∷◌}
use borrow.Author.Tests.{leb-true, leb-false, ltb-true, ltb-false, le-leb, lt-leb, le-ltb}
use Rattle.model.specs.Lists.{all, keep}
use Rattle.model.specs.Offset.{Span}
use Rattle.model.specs.Types.{SourceNode}
use Rattle.model.specs.WellFormed.{span_ok, ordered}
use Rattle.facts.specs.Truth.{both, join}

-- ---- the Rust's ways

module _ {A : Type 0} where
  -- `take_while`: the elements before the first that fails
  abbrev pub take_while : (A → Bool) → List A → List A
  take_while p [] = []
  take_while p (x ∷ xs) = let rest = x ∷ take_while p xs in cond (p x) rest []

  -- `skip_while` of the opposite: the elements from the first that passes on
  abbrev pub skip_until : (A → Bool) → List A → List A
  skip_until p [] = []
  skip_until p (x ∷ xs) = let rest = skip_until p xs in cond (p x) (x ∷ xs) rest

-- ---- ordered nodes

abbrev spans_ok : ℕ → List SourceNode → Bool
spans_ok size ns = all (λ (n : SourceNode). span_ok size n.source_span) ns

span_rises : (size : ℕ) (s : Span) → span_ok size s ≡ true → s.start < s.end
unfolding span_ok
span_rises size s e = ltb-true s.start s.end (both (ltb s.start s.end) (leb s.end size) e).0

module _ (size : ℕ) where
  -- all nodes of an ordered list start at or behind its first place
  starts_behind : (from : ℕ) (ns : List SourceNode) → spans_ok size ns ≡ true → ordered from ns ≡ true → (k : ℕ) → k ≤ from → all (λ (n : SourceNode). leb k n.source_span.start) ns ≡ true
  unfolding ordered
  starts_behind from [] s o k h = refl
  starts_behind from (n ∷ ns) s o k h =
      let t = both (span_ok size n.source_span) (spans_ok size ns) s in
      let p = both (leb from n.source_span.start) (ordered n.source_span.end ns) o in
      let a = leb-true from n.source_span.start p.0 in
      let b = span_rises size n.source_span t.0 in
      join (leb k n.source_span.start) _ (le-leb k n.source_span.start (omega arith)) (starts_behind n.source_span.end ns t.1 p.1 k (omega arith))

  -- one node behind another, neither of them empty
  record Behind (n m : SourceNode) : Type 0 where
    pub first : n.source_span.start < n.source_span.end
    pub apart : n.source_span.end ≤ m.source_span.start
    pub second : m.source_span.start < m.source_span.end

  -- A test whose answer `x`, once given, is given for all nodes behind.
  module _ (test : SourceNode → Bool) (x : Bool) (stays : (n m : SourceNode) → Behind n m → test n ≡ x → test m ≡ x) where
    stays_all : (n : SourceNode) → n.source_span.start < n.source_span.end → test n ≡ x → (ns : List SourceNode) → spans_ok size ns ≡ true
        → all (λ (m : SourceNode). leb n.source_span.end m.source_span.start) ns ≡ true → keep test ns ≡ cond x ns []
    stays_all n r e [] s b = empty x
      where
        empty : (y : Bool) → keep test [] ≡ cond y (keep test []) []
        empty true = refl
        empty false = refl
    stays_all n r e (m ∷ ns) s b =
        let t = both (span_ok size m.source_span) (spans_ok size ns) s in
        let p = both (leb n.source_span.end m.source_span.start) _ b in
        let h : Behind n m = record { first = r; apart = leb-true n.source_span.end m.source_span.start p.0; second = span_rises size m.source_span t.0 } in
        go x (stays n m h e) (stays_all n r e ns t.1 p.1)
      where
        go : (y : Bool) → test m ≡ y → keep test ns ≡ cond y ns [] → keep test (m ∷ ns) ≡ cond y (m ∷ ns) []
        go true q k = rw q (ap (λ (l : List SourceNode). m ∷ l) k)
        go false q k = rw q k

  ordered_rest : (from : ℕ) (n : SourceNode) (ns : List SourceNode) → spans_ok size (n ∷ ns) ≡ true → ordered from (n ∷ ns) ≡ true
      → (spans_ok size ns ≡ true) × (ordered n.source_span.end ns ≡ true) × (n.source_span.start < n.source_span.end) × (all (λ (m : SourceNode). leb n.source_span.end m.source_span.start) ns ≡ true)
  unfolding ordered
  ordered_rest from n ns s o =
      let t = both (span_ok size n.source_span) (spans_ok size ns) s in
      let p = both (leb from n.source_span.start) (ordered n.source_span.end ns) o in
      (t.1, p.1, span_rises size n.source_span t.0, starts_behind n.source_span.end ns t.1 p.1 n.source_span.end (omega arith))

  -- a test that fails from some node on keeps a first part
  keep_first : (test : SourceNode → Bool) → ((n m : SourceNode) → Behind n m → test n ≡ false → test m ≡ false)
      → (from : ℕ) (ns : List SourceNode) → spans_ok size ns ≡ true → ordered from ns ≡ true → keep test ns ≡ take_while test ns
  keep_first test falls from [] s o = refl
  keep_first test falls from (n ∷ ns) s o =
      let r = ordered_rest from n ns s o in
      go (test n) refl r.2 r.0 r.3 (keep_first test falls n.source_span.end ns r.0 r.1)
    where
      go : (x : Bool) → test n ≡ x → n.source_span.start < n.source_span.end → spans_ok size ns ≡ true → all (λ (m : SourceNode). leb n.source_span.end m.source_span.start) ns ≡ true
          → keep test ns ≡ take_while test ns → cond x (n ∷ keep test ns) (keep test ns) ≡ cond x (n ∷ take_while test ns) []
      go true e a t b k = ap (λ (l : List SourceNode). n ∷ l) k
      go false e a t b k = stays_all test false falls n a e ns t b

  -- a test that passes from some node on keeps a last part
  keep_last : (test : SourceNode → Bool) → ((n m : SourceNode) → Behind n m → test n ≡ true → test m ≡ true)
      → (from : ℕ) (ns : List SourceNode) → spans_ok size ns ≡ true → ordered from ns ≡ true → keep test ns ≡ skip_until test ns
  keep_last test rises from [] s o = refl
  keep_last test rises from (n ∷ ns) s o =
      let r = ordered_rest from n ns s o in
      go (test n) refl r.2 r.0 r.3 (keep_last test rises n.source_span.end ns r.0 r.1)
    where
      go : (x : Bool) → test n ≡ x → n.source_span.start < n.source_span.end → spans_ok size ns ≡ true → all (λ (m : SourceNode). leb n.source_span.end m.source_span.start) ns ≡ true
          → keep test ns ≡ skip_until test ns → cond x (n ∷ keep test ns) (keep test ns) ≡ cond x (n ∷ ns) (skip_until test ns)
      go true e a t b k = ap (λ (l : List SourceNode). n ∷ l) (stays_all test true rises n a e ns t b)
      go false e a t b k = k

  -- ---- the places where the Rust does so

  module _ (o from : ℕ) (ns : List SourceNode) (s : spans_ok size ns ≡ true) (order : ordered from ns ≡ true) where
    -- `normalized_offset`, and the rubies before the region: nodes that end at or before an offset
    pub keep_ends_by : keep (λ (n : SourceNode). leb n.source_span.end o) ns ≡ take_while (λ (n : SourceNode). leb n.source_span.end o) ns
    keep_ends_by =
        keep_first (λ n. leb n.source_span.end o)
        (λ n m b f. lt-leb m.source_span.end o (let x = b.apart in let y = b.second in let z = leb-false n.source_span.end o f in omega arith)) from ns s order

    -- `safe_cut`, which breaks at the first node that starts at or behind an offset
    pub keep_starts_before : keep (λ (n : SourceNode). ltb n.source_span.start o) ns ≡ take_while (λ (n : SourceNode). ltb n.source_span.start o) ns
    keep_starts_before =
        keep_first (λ n. ltb n.source_span.start o)
        (λ n m b f. le-ltb m.source_span.start o (let w = b.first in let x = b.apart in let z = ltb-false n.source_span.start o f in omega arith)) from ns s order

    -- `node_at_source`, whose `partition_point` counts the nodes that start at or before an offset
    pub keep_starts_by : keep (λ (n : SourceNode). leb n.source_span.start o) ns ≡ take_while (λ (n : SourceNode). leb n.source_span.start o) ns
    keep_starts_by =
        keep_first (λ n. leb n.source_span.start o)
        (λ n m b f. lt-leb m.source_span.start o (let w = b.first in let x = b.apart in let z = leb-false n.source_span.start o f in omega arith)) from ns s order

    -- the formats behind the region: nodes that start at or behind an offset
    pub keep_starts_from : keep (λ (n : SourceNode). leb o n.source_span.start) ns ≡ skip_until (λ (n : SourceNode). leb o n.source_span.start) ns
    keep_starts_from =
        keep_last (λ n. leb o n.source_span.start)
        (λ n m b f. le-leb o m.source_span.start (let w = b.first in let x = b.apart in let z = leb-true o n.source_span.start f in omega arith)) from ns s order
