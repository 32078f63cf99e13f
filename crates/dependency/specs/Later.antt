-- A node whose target a later node asks for is left to that node: where the later one refers to no base, neither does it.
use Rattle.std.specs.Prelude.{◌≡◌, ℕ, zero, suc, ◌+◌, ◌-◌, ◌*◌, ◌<◌, ◌≤◌, min, Bool, true, false, ◌&&◌, ◌||◌, List, ◌++◌, ◌≢◌, nat_lt}
use Rattle.std.proofs.Common.{sym, ap, ◌∙◌, arith, true≢false, ltb-true, ltb-false}
use Rattle.std.proofs.lemmas.Bool.{false≢true}
use Rattle.std.proofs.Math.Option.{Option}
use Rattle.model.specs.Types.{SourceNode}
use Rattle.model.specs.Store.{NodeStore}
use Rattle.model.specs.Tape.{record_at, records_at, node_codec}
use Rattle.model.specs.Region.{is_ruby, is_referenced_format, first_plain}
use Rattle.facts.specs.Truth.{both, or_left, or_right, by_bool}
use Rattle.wire.specs.Loops.{any_up_to, any_missed}
use Rattle.strings.specs.declared.lent.Strings.{Strings}
use Rattle.strings.specs.Lent.{lent_store}
use Rattle.ruby_formats.specs.Asks.{asks_target, asks_at}
use Rattle.dependency.specs.Bases.{among_bases, refers_back}
use Rattle.dependency.specs.Parts.{refers_among}
use Rattle.dependency.specs.Pieces.{run_join, among_join}
use Rattle.strings.specs.PlainContent.{same_known}
use Rattle.ruby_formats.specs.Named.{named_by, same_first, asks_again}

-- ---- what is left to a later place

-- P holds at a place behind k
pub record Later (P : ℕ → Bool) (count k : ℕ) : Type 0 where
  pub place : ℕ
  pub behind : k < place
  pub inside : place < count
  pub holds : P place ≡ true

-- an answer for place i: yes is true, no may be left to a later place
pub record Settled (P : ℕ → Bool) (count i : ℕ) (r : Bool) : Type 0 where
  pub yes : r ≡ true → P i ≡ true
  pub no : r ≡ false → P i ≡ true → Later P count i

-- before place i, P holds only where it holds at a later place
pub record Left (P : ℕ → Bool) (count i : ℕ) : Type 0 where
  pub later : (k : ℕ) → k < i → P k ≡ true → Later P count k

module _ (P : ℕ → Bool) (count : ℕ) where
  pub settled_here : (i : ℕ) {r : Bool} → r ≡ P i → Settled P count i r
  settled_here i e = record { yes = λ t. sym e ∙ t; no = λ f t. absurd (true≢false (sym t ∙ sym e ∙ f)) }

  pub left_none : Left P count 0
  left_none = record { later = λ k h. absurd (omega arith) }

  pub left_more : {i : ℕ} {r : Bool} → Left P count i → Settled P count i r → r ≡ false → Left P count (i + 1)
  left_more {i} l s f = record {
    later = λ k h t.
        by_bool (nat_lt k i)
        (λ q. l.later k (ltb-true k i q) t)
        (λ q. let e : k ≡ i = last k q h in rw e (s.no f (sym (ap P e) ∙ t)));
  }
    where
      last : (k : ℕ) → nat_lt k i ≡ false → k < i + 1 → k ≡ i
      last k q h = let g = ltb-false k i q in omega (arith, g, h)

  -- at the end nothing is left
  climb : Left P count count → (d k : ℕ) → count ≤ k + d → k < count → P k ≢ true
  climb l zero k e h t = omega arith
  climb l (suc d) k e h t = let n = l.later k h t in climb l d n.place (omega (arith, n.behind, e)) n.inside n.holds

  pub left_all : Left P count count → any_up_to count P ≡ false
  left_all l = any_missed P count (record { none = λ k h. by_bool (P k) (λ t. absurd (climb l count k (omega arith) h t)) (λ f. f) })

-- a node that refers to a base among the first n, and a later one with its target
module _ (ss : Strings) (from at n i v count : ℕ) {x : Bool} (e : (b : List ℕ) → x ≡ asks_again from ss.tape.now at i v count b) (f : x ≡ true) where
  abbrev t : List ℕ
  t = ss.tape.now

  abbrev all : List ℕ
  all = ss.old.now ++ ss.new.now

  abbrev st : NodeStore
  st = lent_store ss

  abbrev node : ℕ → SourceNode
  node k = record_at node_codec t (at + 49 * k)

  parts : (nat_lt i v ≡ true) × (nat_lt v count ≡ true) × (asks_target from (node v) ≡ true) × (same_known (named_by t (at + 49 * i) all) (named_by t (at + 49 * v) all) ≡ true)
  unfolding asks_again asks_at
  parts =
      let a = both (nat_lt i v && nat_lt v count && asks_target from (node v)) (same_known (named_by t (at + 49 * i) all) (named_by t (at + 49 * v) all)) (sym (e all) ∙ f) in
      let b = both (nat_lt i v && nat_lt v count) (asks_target from (node v)) a.0 in
      let d = both (nat_lt i v) (nat_lt v count) b.0 in
      (d.0, d.1, b.1, a.1)

  format : (m : SourceNode) → asks_target from m ≡ true → (is_ruby m || is_referenced_format m) ≡ true
  unfolding asks_target
  format m q = or_right (is_ruby m) (is_referenced_format m) (both (is_referenced_format m) (nat_lt from m.source_span.end) q).0

  more : (p : Option (List ℕ)) → among_bases st (records_at node_codec t at (min n i)) p ≡ true → among_bases st (records_at node_codec t at (min n v)) p ≡ true
  more p q =
      let l = ltb-true i v parts.0 in
      let z : min n v ≡ min n i + (min n v - min n i) = omega (arith, l) in
      ap (λ (k : ℕ). among_bases st (records_at node_codec t at k) p) z
      ∙ ap (λ (ns : List SourceNode). among_bases st ns p) (run_join t at (min n i) (min n v - min n i))
      ∙ among_join st (records_at node_codec t at (min n i)) (records_at node_codec t (at + 49 * min n i) (min n v - min n i)) p
      ∙ or_left (among_bases st (records_at node_codec t at (min n i)) p) (among_bases st (records_at node_codec t (at + 49 * min n i) (min n v - min n i)) p) q

  then : refers_among st from t at n i ≡ true → refers_among st from t at n v ≡ true
  unfolding refers_among refers_back
  then q =
      let k = both (asks_target from (node i)) (among_bases st (records_at node_codec t at (min n i)) (first_plain st (node i))) q in
      let z = same_first t all (at + 49 * i) (at + 49 * v) parts.3 (format (node i) k.0) (format (node v) parts.2) in
      rw (parts.2, ← z) (more (first_plain st (node i)) k.1)

  pub settled_later : Settled (refers_among st from t at n) count i false
  settled_later = record {
    yes = λ z. absurd (false≢true z);
    no = λ z q. record { place = v; behind = ltb-true i v parts.0; inside = ltb-true v count parts.1; holds = then q };
  }
