-- The offsets that the nodes allow: they lie in the gaps between nodes in order behind which both depths are 0.
use Prim.Native.Nat.{ℕ, suc, ◌+◌, ◌-◌, ◌*◌, ◌≤◌, ◌<◌, max}
use native.Mathlib.Omega.{arith}
use Rattle.std.proofs.Common.{le_refl, sym, ◌∙◌}
use Rattle.std.specs.Prelude.{◌≡◌, Bool, true, false, not, ◌&&◌, List, [], ◌∷◌, length, leb, ltb, eqb}
use Rattle.std.proofs.Math.Path.{refl, ap}
use borrow.Author.Tests.{lt-ltb, le-ltb, leb-true, ltb-true, le-leb}
use Rattle.model.specs.Lists.{all, any}
use Rattle.model.specs.Types.{SourceNode, LexOutput}
use Rattle.model.specs.Tape.{record_at, records_at, node_codec}
use Rattle.model.specs.WellFormed.{span_ok, ordered, offsets_ok}
use Rattle.model.specs.Region.{across, is_block_open, is_block_close, is_warichu_open, is_warichu_close, depth_behind, depth, nodes_before, nodes_allow_cut}
use Rattle.facts.specs.Truth.{both, join, by_bool}
use Rattle.laws.specs.Checks.{PlaceFacts}
use Rattle.records.specs.Runs.{run_cons, run_none}
use Rattle.bounds.specs.Walk.{node_inside, nodes_in_place}
use Rattle.bounds.specs.Search.{InOrder}
use Rattle.places.specs.declared.Run.{Run}
use Rattle.cuts.specs.Offsets.{Refused}

abbrev pub nodes_of : List ℕ → Run → List SourceNode
nodes_of t r = records_at node_codec t r.at r.count

-- the node numbered i, and those from it on
abbrev pub node_at : List ℕ → Run → ℕ → SourceNode
node_at t r i = record_at node_codec t (r.at + 49 * i)

abbrev pub nodes_from : List ℕ → Run → ℕ → List SourceNode
nodes_from t r i = records_at node_codec t (r.at + 49 * i) (r.count - i)

abbrev pub node_across : ℕ → SourceNode → Bool
node_across o n = across o n.source_span.start n.source_span.end

abbrev pub is_filled : SourceNode → Bool
is_filled n = ltb n.source_span.start n.source_span.end

-- no node is empty, and each begins at or behind the end of the one before, in a text of any size
pub record NodesApart (ns : List SourceNode) : Type 0 where
  pub filled : all is_filled ns ≡ true
  pub order : ordered 0 ns ≡ true

-- what number 6 tells of the nodes of a text of `size` bytes
pub record NodesIn (size : ℕ) (ns : List SourceNode) : Type 0 where
  pub inside : all (node_inside size) ns ≡ true
  pub order : ordered 0 ns ≡ true

-- nodes_allow_cut behind nodes with these depths
unfoldable pub nodes_allow_from : ℕ → ℕ → List SourceNode → ℕ → Bool
nodes_allow_from blocks warichu ns o =
    not (any (node_across o) ns)
    && eqb (depth is_block_open is_block_close blocks (nodes_before o ns)) 0
    && eqb (depth is_warichu_open is_warichu_close warichu (nodes_before o ns)) 0

-- both depths are 0
abbrev pub depths_zero : ℕ → ℕ → Bool
depths_zero blocks warichu = eqb blocks 0 && eqb warichu 0

-- a close at depth 0
unfoldable pub closes_nothing : Bool → ℕ → Bool
closes_nothing closes d = closes && eqb d 0

-- ---- one node

-- nodes from k on say nothing of an offset at or before k
none_before : (size k c : ℕ) → c ≤ k → (ns : List SourceNode) → ordered k ns ≡ true → all (node_inside size) ns ≡ true
    → (any (node_across c) ns ≡ false) × (nodes_before c ns ≡ [])
unfolding ordered nodes_before span_ok
none_before size k c h [] o i = (refl, refl)
none_before size k c h (n ∷ ns) o i =
    let start = n.source_span.start in
    let end = n.source_span.end in
    let order = both (leb k start) (ordered end ns) o in
    let inside = both (node_inside size n) (all (node_inside size) ns) i in
    let behind = leb-true k start order.0 in
    let rises = ltb-true start end (both (ltb start end) (leb end size) inside.0).0 in
    let rest = none_before size end c (omega arith) ns order.1 inside.1 in
    let e = le-ltb start c (omega arith) in
    (rw (e, rest.0) refl, rw e rest.1)

ordered_none : (k : ℕ) → ordered k [] ≡ true
unfolding ordered
ordered_none k = refl

module _ (size blocks warichu c : ℕ) where
  -- before the nodes that are left
  pub allow_before : (k : ℕ) → c ≤ k → (ns : List SourceNode) → ordered k ns ≡ true → all (node_inside size) ns ≡ true
      → nodes_allow_from blocks warichu ns c ≡ depths_zero blocks warichu
  unfolding nodes_allow_from depth
  allow_before k h ns o i = let s = none_before size k c h ns o i in rw (s.0, s.1) refl

  module _ (n : SourceNode) (ns : List SourceNode) where
    -- inside the next node
    pub allow_across : n.source_span.start < c → c < n.source_span.end → nodes_allow_from blocks warichu (n ∷ ns) c ≡ false
    unfolding nodes_allow_from
    allow_across h g = rw (lt-ltb _ _ h, lt-ltb _ _ g) refl

    -- behind it
    pub allow_past : n.source_span.start < n.source_span.end → n.source_span.end ≤ c
        → nodes_allow_from blocks warichu (n ∷ ns) c ≡ nodes_allow_from (depth_behind is_block_open is_block_close blocks n) (depth_behind is_warichu_open is_warichu_close warichu n) ns c
    unfolding nodes_allow_from nodes_before depth
    allow_past h g = rw (le-ltb c n.source_span.end g, lt-ltb n.source_span.start c (omega arith)) refl

-- ---- the walk: i nodes are passed, the last of them ends at `from`, and behind it only the nodes that are left matter

pub record Walked (size : ℕ) (t : List ℕ) (r : Run) (i from blocks warichu : ℕ) : Type 0 where
  pub within : i ≤ r.count
  pub blocks_small : blocks ≤ i
  pub warichu_small : warichu ≤ i
  pub inside : all (node_inside size) (nodes_from t r i) ≡ true
  pub order : ordered from (nodes_from t r i) ≡ true
  pub same : (c : ℕ) → from ≤ c → nodes_allow_cut (nodes_of t r) c ≡ nodes_allow_from blocks warichu (nodes_from t r i) c

pub walked_none : (size : ℕ) (t : List ℕ) (r : Run) → NodesIn size (nodes_of t r) → Walked size t r 0 0 0 0
unfolding nodes_allow_from nodes_allow_cut
walked_none size t r h =
    let e₁ : r.at + 49 * 0 ≡ r.at = omega arith in
    let e₂ : r.count - 0 ≡ r.count = omega arith in
    record {
      within = omega arith;
      blocks_small = omega arith;
      warichu_small = omega arith;
      inside = rw (e₁, e₂) h.inside;
      order = rw (e₁, e₂) h.order;
      same = λ c g. rw (e₁, e₂) refl;
    }

pub depth_small : (opens closes : SourceNode → Bool) (d : ℕ) (n : SourceNode) → depth_behind opens closes d n ≤ d + 1
unfolding depth_behind
depth_small opens closes d n =
    by_bool (opens n) (λ e. rw e (omega arith)) (λ e. rw e (by_bool (closes n) (λ f. rw f (omega arith)) (λ f. rw f (omega arith))))

module _ {size : ℕ} {t : List ℕ} {r : Run} {i from blocks warichu : ℕ} (w : Walked size t r i from blocks warichu) where
  -- behind the last node
  pub walked_rest : r.count ≤ i → (c : ℕ) → from ≤ c → nodes_allow_cut (nodes_of t r) c ≡ depths_zero blocks warichu
  walked_rest h c g =
      let z : r.count - i ≡ 0 = omega arith in
      let none : nodes_from t r i ≡ [] = ap (λ (k : ℕ). records_at node_codec t (r.at + 49 * i) k) z ∙ run_none node_codec t (r.at + 49 * i) in
      w.same c g ∙ ap (λ (l : List SourceNode). nodes_allow_from blocks warichu l c) none ∙ allow_none c
    where
      allow_none : (c : ℕ) → nodes_allow_from blocks warichu [] c ≡ depths_zero blocks warichu
      allow_none c = allow_before size blocks warichu c c (omega arith) [] (ordered_none c) refl

  module _ (h : i < r.count) where
    nodes_next : nodes_from t r i ≡ (node_at t r i ∷ nodes_from t r (i + 1))
    unfolding node_codec
    nodes_next =
        let e : r.count - i ≡ suc (r.count - (i + 1)) = omega arith in
        ap (λ (k : ℕ). records_at node_codec t (r.at + 49 * i) k) e
        ∙ run_cons node_codec t (r.count - (i + 1)) (r.at + 49 * i) (r.at + 49 * (i + 1)) (omega arith)

    inside_next : (node_inside size (node_at t r i) ≡ true) × (all (node_inside size) (nodes_from t r (i + 1)) ≡ true)
    inside_next = both (node_inside size (node_at t r i)) (all (node_inside size) (nodes_from t r (i + 1))) (sym (ap (all (node_inside size)) nodes_next) ∙ w.inside)

    order_next : (leb from (node_at t r i).source_span.start ≡ true)
        × (ordered (node_at t r i).source_span.end (nodes_from t r (i + 1)) ≡ true)
    unfolding ordered
    order_next =
        both (leb from (node_at t r i).source_span.start) (ordered (node_at t r i).source_span.end (nodes_from t r (i + 1)))
        (sym (ap (ordered from) nodes_next) ∙ w.order)

    same_next : (c : ℕ) → from ≤ c
        → nodes_allow_cut (nodes_of t r) c ≡ nodes_allow_from blocks warichu (node_at t r i ∷ nodes_from t r (i + 1)) c
    same_next c g = w.same c g ∙ ap (λ (l : List SourceNode). nodes_allow_from blocks warichu l c) nodes_next

    -- the next node, by the numbers that the code has read
    module _ (start end : ℕ) (q : start ≡ (node_at t r i).source_span.start) (q₁ : end ≡ (node_at t r i).source_span.end) where
      pub walked_span : (from ≤ start) × (start < end) × (end ≤ size)
      unfolding span_ok
      walked_span =
          let first = (node_at t r i).source_span.start in
          let last = (node_at t r i).source_span.end in
          let s = both (ltb first last) (leb last size) inside_next.0 in
          let a = leb-true from first order_next.0 in
          let b = ltb-true first last s.0 in
          let d = leb-true last size s.1 in
          (omega arith, omega arith, omega arith)

      -- the gap before it
      pub walked_gap : (c : ℕ) → from ≤ c → c ≤ start → nodes_allow_cut (nodes_of t r) c ≡ depths_zero blocks warichu
      unfolding ordered
      walked_gap c g b =
          let n = node_at t r i in
          let ns = nodes_from t r (i + 1) in
          same_next c g
          ∙ allow_before size blocks warichu c n.source_span.start (omega arith) (n ∷ ns)
          (join (leb n.source_span.start n.source_span.start) (ordered n.source_span.end ns) (le-leb _ _ (le_refl n.source_span.start)) order_next.1)
          (join (node_inside size n) (all (node_inside size) ns) inside_next.0 inside_next.1)

      -- the node itself
      pub walked_across : (c : ℕ) → start < c → c < end → nodes_allow_cut (nodes_of t r) c ≡ false
      walked_across c g b = same_next c (omega (arith, walked_span.0)) ∙ allow_across size blocks warichu c (node_at t r i) (nodes_from t r (i + 1)) (omega arith) (omega arith)

      pub walked_refused : Refused (nodes_allow_cut (nodes_of t r)) (start + 1) end
      walked_refused = record { fails = λ c g b. walked_across c (omega arith) b }

      pub walked_more : (blocks' warichu' : ℕ) → blocks' ≡ depth_behind is_block_open is_block_close blocks (node_at t r i)
          → warichu' ≡ depth_behind is_warichu_open is_warichu_close warichu (node_at t r i) → Walked size t r (i + 1) end blocks' warichu'
      walked_more blocks' warichu' e f =
          let n = node_at t r i in
          let a = depth_small is_block_open is_block_close blocks n in
          let b = depth_small is_warichu_open is_warichu_close warichu n in
          let s = walked_span in
          record {
            within = omega arith;
            blocks_small = omega (arith, e, a, w.blocks_small);
            warichu_small = omega (arith, f, b, w.warichu_small);
            inside = inside_next.1;
            order = rw q₁ order_next.1;
            same = λ c g. rw (e, f) (same_next c (omega (arith, s)) ∙ allow_past size blocks warichu c n (nodes_from t r (i + 1)) (omega (arith, s)) (omega arith));
          }

-- ---- nodes that the walk of number 6 accepted, or of a book that passed it

pub placed_nodes : (size : ℕ) (ns : List SourceNode) → nodes_in_place size ns ≡ true → NodesIn size ns
placed_nodes size ns e =
    let a = both (all (node_inside size) ns && ordered 0 ns) (offsets_ok 0 0 ns) e in
    let b = both (all (node_inside size) ns) (ordered 0 ns) a.0 in
    record { inside = b.0; order = b.1 }

pub book_nodes : (b : LexOutput) → PlaceFacts b → NodesIn (length b.sanitized) b.source_nodes
book_nodes b f = record { inside = f.source_spans; order = f.order }

pub in_order_nodes : {ns : List SourceNode} → (h : InOrder ns) → NodesIn h.size ns
in_order_nodes h = record { inside = h.inside; order = h.order }

all_filled : (size : ℕ) (ns : List SourceNode) → all (node_inside size) ns ≡ true → all is_filled ns ≡ true
unfolding span_ok
all_filled size [] h = refl
all_filled size (n ∷ ns) h =
    let b = both (node_inside size n) (all (node_inside size) ns) h in
    join (is_filled n) (all is_filled ns) (both (is_filled n) (leb n.source_span.end size) b.0).0 (all_filled size ns b.1)

pub nodes_apart : {size : ℕ} {ns : List SourceNode} → NodesIn size ns → NodesApart ns
nodes_apart {size} {ns} h = record { filled = all_filled size ns h.inside; order = h.order }

-- how far the nodes go
unfoldable far : List SourceNode → ℕ
far [] = 0
far (n ∷ ns) = max n.source_span.end (far ns)

inside_far : (size : ℕ) (ns : List SourceNode) → far ns ≤ size → all is_filled ns ≡ true → all (node_inside size) ns ≡ true
unfolding far span_ok
inside_far size [] h f = refl
inside_far size (n ∷ ns) h f =
    let b = both (is_filled n) (all is_filled ns) f in
    join (node_inside size n) (all (node_inside size) ns)
    (join (is_filled n) (leb n.source_span.end size) b.0 (le-leb _ _ (omega arith)))
    (inside_far size ns (omega arith) b.1)

pub apart_in_order : {ns : List SourceNode} → NodesApart ns → InOrder ns
apart_in_order {ns} a = record { size = far ns; inside = inside_far (far ns) ns (le_refl (far ns)) a.filled; order = a.order }

pub in_order_apart : {ns : List SourceNode} → InOrder ns → NodesApart ns
in_order_apart h = record { filled = all_filled h.size _ h.inside; order = h.order }

-- ---- `nodes_allow_cut`: every node that was passed ends at or before o

pub record Upto (t : List ℕ) (r : Run) (o i blocks warichu : ℕ) : Type 0 where
  pub size : ℕ
  pub from : ℕ
  pub by : from ≤ o
  pub walked : Walked size t r i from blocks warichu

pub upto_none : (t : List ℕ) (r : Run) (o : ℕ) → InOrder (nodes_of t r) → Upto t r o 0 0 0
upto_none t r o h = record { size = h.size; from = 0; by = omega arith; walked = walked_none h.size t r (in_order_nodes h) }

module _ {t : List ℕ} {r : Run} {o i blocks warichu : ℕ} (u : Upto t r o i blocks warichu) where
  pub upto_rest : r.count ≤ i → (x : Bool) → x ≡ depths_zero blocks warichu → x ≡ nodes_allow_cut (nodes_of t r) o
  upto_rest h x e = e ∙ sym (walked_rest u.walked h o u.by)

  module _ (h : i < r.count) (start : ℕ) (q : start ≡ (node_at t r i).source_span.start) where
    pub upto_gap : o ≤ start → (x : Bool) → x ≡ depths_zero blocks warichu → x ≡ nodes_allow_cut (nodes_of t r) o
    upto_gap g x e = e ∙ sym (walked_gap u.walked h start (node_at t r i).source_span.end q refl o u.by g)

    module _ (end : ℕ) (q₁ : end ≡ (node_at t r i).source_span.end) where
      pub upto_across : start < o → o < end → false ≡ nodes_allow_cut (nodes_of t r) o
      upto_across g b = sym (walked_across u.walked h start end q q₁ o g b)

      pub upto_more : end ≤ o → (blocks' warichu' : ℕ) → blocks' ≡ depth_behind is_block_open is_block_close blocks (node_at t r i)
          → warichu' ≡ depth_behind is_warichu_open is_warichu_close warichu (node_at t r i) → Upto t r o (i + 1) blocks' warichu'
      upto_more g blocks' warichu' e f = record { size = u.size; from = end; by = g; walked = walked_more u.walked h start end q q₁ blocks' warichu' e f }
