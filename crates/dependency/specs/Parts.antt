-- Number 10 in parts of the nodes, so that the filter is never crowded: a target is compared with the bases of one part, in one walk
-- for each part. What refers to none of the first nodes and to none of the next refers to none of both.
use Rattle.std.specs.Prelude.{Option, ◌≡◌, ℕ, ◌+◌, ◌-◌, ◌*◌, ◌<◌, ◌≤◌, min, Bool, true, false, ◌&&◌, ◌||◌, List, [], ◌∷◌, ◌++◌, nat_lt, refl}
use Rattle.std.proofs.Math.Path.{sym, ap}
use Rattle.std.proofs.Common.{ap₂, ◌∙◌, true≢false, ltb-true, ltb-false}
use native.Mathlib.Omega.{arith}
use Rattle.std.proofs.Math.Bool.{and-false}
use Rattle.std.proofs.Math.Option.{Option as ModelOption, none, some}
use Rattle.model.specs.Types.{SourceNode}
use Rattle.model.specs.Store.{NodeStore}
use Rattle.model.specs.Tape.{record_at, records_at, node_codec}
use Rattle.model.specs.Lists.{any}
use Rattle.model.specs.Region.{is_ruby, first_plain, depends_from}
use Rattle.facts.specs.Truth.{neither, by_bool}
use Rattle.wire.specs.Loops.{any_up_to, Missed, any_missed, any_at}
use Rattle.records.specs.Runs.{run_none}
use Rattle.span.specs.declared.StrId.{StrId}
use Rattle.strings.specs.declared.lent.Strings.{Strings}
use Rattle.strings.specs.Lent.{lent_store}
use Rattle.strings.specs.PlainContent.{plain_of, plain_string}
use Rattle.ruby_formats.specs.Asks.{asks_target}
use Rattle.dependency.specs.Bases.{is_plain, has_base, among_bases, refers_back, refers_at, depends_records}
use Rattle.dependency.specs.Noted.{Noted, noted_by, noted_none, noted_next}
use Rattle.ruby_formats.specs.Sound.{first_contents, plain_first}
use Rattle.dependency.specs.Pieces.{run_join, among_join, among_none}

-- node i of a run and those of the first n that stand before it
unfoldable pub refers_among : NodeStore → ℕ → List ℕ → ℕ → ℕ → ℕ → Bool
refers_among st from t at n i = refers_back st from (records_at node_codec t at (min n i)) (record_at node_codec t (at + 49 * i))

-- ---- the nodes noted

module _ (st : NodeStore) (t : List ℕ) (at n i : ℕ) (words : List ℕ) (m : Noted st (records_at node_codec t at (min n i)) words) where
  pub noted_few : (k : ℕ) → k ≡ min n i → Noted st (records_at node_codec t at k) words
  noted_few k e = rw e m

  pub noted_past : n ≤ i → Noted st (records_at node_codec t at (min n (i + 1))) words
  noted_past h = let e : min n (i + 1) ≡ min n i = omega arith in rw e m

  pub noted_one : {after : List ℕ} → i < n → after ≡ noted_by st words (record_at node_codec t (at + 49 * i)) → Noted st (records_at node_codec t at (min n (i + 1))) after
  noted_one h q =
      let e : min n (i + 1) ≡ i + 1 = omega arith in
      let f : min n i ≡ i = omega arith in
      rw e (noted_next st t at words i (rw f at m) q)

pub noted_start : (st : NodeStore) (t : List ℕ) (at n : ℕ) (words : List ℕ) → Noted st (records_at node_codec t at (min n 0)) words
noted_start st t at n words = let e : min n 0 ≡ 0 = omega arith in rw e (noted_none st t at words)

-- ---- the walk over one part

refers_join : (st : NodeStore) (from : ℕ) (a b : List SourceNode) (n : SourceNode) → refers_back st from (a ++ b) n ≡ refers_back st from a n || refers_back st from b n
unfolding refers_back
refers_join st from a b n =
    ap (λ (x : Bool). asks_target from n && x) (among_join st a b (first_plain st n)) ∙ spread (asks_target from n) (among_bases st a (first_plain st n)) (among_bases st b (first_plain st n))
  where
    spread : (r x y : Bool) → (r && (x || y)) ≡ ((r && x) || (r && y))
    spread true x y = refl
    spread false x y = refl

module _ (st : NodeStore) (from : ℕ) (t : List ℕ) (at : ℕ) where
  abbrev node : ℕ → SourceNode
  node p = record_at node_codec t p

  -- n nodes from place p on
  abbrev nodes : ℕ → ℕ → List SourceNode
  nodes p n = records_at node_codec t p n

  -- node i + k, by the first i nodes and by the next m
  piece : (i m k : ℕ) → refers_back st from (nodes at (i + m)) (node (at + 49 * (i + k)))
      ≡ refers_back st from (nodes at i) (node (at + 49 * (i + k))) || refers_back st from (nodes (at + 49 * i) m) (node (at + 49 * i + 49 * k))
  piece i m k =
      let e : at + 49 * (i + k) ≡ at + 49 * i + 49 * k = omega arith in
      ap (λ (l : List SourceNode). refers_back st from l (node (at + 49 * (i + k)))) (run_join t at i m)
      ∙ refers_join st from (nodes at i) (nodes (at + 49 * i) m) (node (at + 49 * (i + k)))
      ∙ ap (λ (p : ℕ). refers_back st from (nodes at i) (node (at + 49 * (i + k))) || refers_back st from (nodes (at + 49 * i) m) (node p)) e

  pub parts_none : (count : ℕ) → Missed (refers_among st from t at 0) count
  unfolding refers_among refers_back
  parts_none count = record {
    none = λ k h.
        let e : min 0 k ≡ 0 = omega arith in
        let n = node (at + 49 * k) in
        ap (λ (m : ℕ). asks_target from n && among_bases st (nodes at m) (first_plain st n)) e
        ∙ ap (λ (l : List SourceNode). asks_target from n && among_bases st l (first_plain st n)) (run_none node_codec t at)
        ∙ ap (λ (x : Bool). asks_target from n && x) (among_none st (first_plain st n)) ∙ and-false (asks_target from n);
  }

  -- the answer of the walk for the next n nodes
  module _ (count i n : ℕ) (h : i ≤ count) {x : Bool} (e : x ≡ any_up_to (count - i) (refers_among st from t (at + 49 * i) n)) where
    pub parts_more : Missed (refers_among st from t at i) count → x ≡ false → Missed (refers_among st from t at (i + n)) count
    unfolding refers_among
    parts_more m f = record { none = λ j b. by_bool (nat_lt j i) (λ s. before j b (ltb-true j i s)) (λ s. behind j b (ltb-false j i s)) }
      where
        before : (j : ℕ) → j < count → j < i → refers_back st from (nodes at (min (i + n) j)) (node (at + 49 * j)) ≡ false
        before j b s =
            let q : min (i + n) j ≡ min i j = omega arith in
            ap (λ (k : ℕ). refers_back st from (nodes at k) (node (at + 49 * j))) q ∙ m.none j b

        behind : (j : ℕ) → j < count → i ≤ j → refers_back st from (nodes at (min (i + n) j)) (node (at + 49 * j)) ≡ false
        behind j b s =
            let k = j - i in
            let q : min (i + n) j ≡ i + min n k = omega arith in
            let r : j ≡ i + k = omega arith in
            let u : min i j ≡ i = omega arith in
            let first = ap₂ (λ (a c : ℕ). refers_back st from (nodes at a) (node (at + 49 * c))) (sym u) (sym r) ∙ m.none j b in
            let next = any_at (refers_among st from t (at + 49 * i) n) (count - i) k (sym e ∙ f) (omega arith) in
            ap₂ (λ (a c : ℕ). refers_back st from (nodes at a) (node (at + 49 * c))) q r
            ∙ piece i (min n k) k ∙ ap₂ (λ (a b : Bool). a || b) first next

    pub parts_found : x ≡ true → true ≡ depends_from st from [] (nodes at count)
    unfolding refers_among refers_at
    parts_found f =
        by_bool (any_up_to count (refers_at st from t at))
        (λ s. sym (depends_records st from t at count ∙ s))
        (λ s. absurd (true≢false (sym f ∙ e ∙ any_missed (refers_among st from t (at + 49 * i) n) (count - i) (record { none = λ k b. absent s k b }))))
      where
        absent : any_up_to count (refers_at st from t at) ≡ false → (k : ℕ) → k < count - i → refers_back st from (nodes (at + 49 * i) (min n k)) (node (at + 49 * i + 49 * k)) ≡ false
        absent s k b =
            let whole : refers_back st from (nodes at (i + k)) (node (at + 49 * (i + k))) ≡ false = any_at (refers_at st from t at) count (i + k) s (omega arith) in
            let before = refers_back st from (nodes at i) (node (at + 49 * (i + k))) in
            let behind = refers_back st from (nodes (at + 49 * i) k) (node (at + 49 * i + 49 * k)) in
            let own : behind ≡ false = (neither before behind (sym (piece i k k) ∙ whole)).1 in
            let q : k ≡ min n k + (k - min n k) = omega arith in
            let here = node (at + 49 * i + 49 * k) in
            let first = nodes (at + 49 * i) (min n k) in
            let last = nodes (at + 49 * i + 49 * min n k) (k - min n k) in
            (neither (refers_back st from first here) (refers_back st from last here)
            (sym (ap (λ (l : List SourceNode). refers_back st from l here) (ap (nodes (at + 49 * i)) q ∙ run_join t (at + 49 * i) (min n k) (k - min n k))
            ∙ refers_join st from first last here) ∙ own)).0

  pub parts_all : (count i : ℕ) → i ≡ count → Missed (refers_among st from t at i) count → false ≡ depends_from st from [] (nodes at count)
  unfolding refers_among refers_at
  parts_all count i e m =
      sym (depends_records st from t at count ∙ any_missed (refers_at st from t at) count (record {
        none = λ k b.
            let q : min i k ≡ k = omega arith in
            ap (λ (a : ℕ). refers_back st from (nodes at a) (node (at + 49 * k))) (sym q) ∙ m.none k b;
      }))

-- ---- one node, each return of the code

module _ (ss : Strings) (at i n from : ℕ) {x : Bool} (e : x ≡ asks_target from (record_at node_codec ss.tape.now (at + 49 * i))) where
  pub refers_other : x ≡ false → false ≡ refers_among (lent_store ss) from ss.tape.now at n i
  unfolding refers_among refers_back
  refers_other h = sym (rw (← e, h) refl)

  pub refers_target : x ≡ true → {r : Option StrId} → ((b : List ℕ) → r ≡ plain_of (first_contents ss.tape.now (at + 49 * i) b)) → {k : ℕ} → k ≡ min n i
      → {y : Bool} → y ≡ among_bases (lent_store ss) (records_at node_codec ss.tape.now at k) (plain_string (lent_store ss) r)
      → y ≡ refers_among (lent_store ss) from ss.tape.now at n i
  unfolding refers_among refers_back
  refers_target h f {k} g q =
      sym (rw (← e, h, ← g) (ap (among_bases (lent_store ss) (records_at node_codec ss.tape.now at k)) (plain_first ss (at + 49 * i) f) ∙ sym q))

-- ---- a part without a Ruby

base_none : (st : NodeStore) (s : List ℕ) (ns : List SourceNode) → any is_ruby ns ≡ false → any (has_base st s) ns ≡ false
unfolding has_base
base_none st s [] e = refl
base_none st s (n ∷ ns) e =
    ap₂ (λ (a b : Bool). (a && is_plain s (first_plain st n)) || b) (neither (is_ruby n) (any is_ruby ns) e).0 (base_none st s ns (neither (is_ruby n) (any is_ruby ns) e).1)

among_none_of : (st : NodeStore) (ns : List SourceNode) (p : ModelOption (List ℕ)) → any is_ruby ns ≡ false → among_bases st ns p ≡ false
unfolding among_bases
among_none_of st ns none e = refl
among_none_of st ns (some s) e = base_none st s ns e

module _ (st : NodeStore) (from : ℕ) (t : List ℕ) (at n : ℕ) {x : Bool} (r : x ≡ any is_ruby (records_at node_codec t at n)) (e : x ≡ false) where
  none_back : (m : SourceNode) → refers_back st from (records_at node_codec t at n) m ≡ false
  unfolding refers_back
  none_back m = ap (λ (b : Bool). asks_target from m && b) (among_none_of st (records_at node_codec t at n) (first_plain st m) (sym r ∙ e)) ∙ and-false (asks_target from m)

  pub part_without : (count : ℕ) → false ≡ any_up_to count (refers_among st from t at n)
  unfolding refers_among
  part_without count = sym (any_missed (refers_among st from t at n) count (record { none = λ i h. absent i }))
    where
      absent : (i : ℕ) → refers_back st from (records_at node_codec t at (min n i)) (record_at node_codec t (at + 49 * i)) ≡ false
      absent i =
          let m = record_at node_codec t (at + 49 * i) in
          let q : n ≡ min n i + (n - min n i) = omega arith in
          (neither (refers_back st from (records_at node_codec t at (min n i)) m) (refers_back st from (records_at node_codec t (at + 49 * min n i) (n - min n i)) m)
          (sym (ap (λ (l : List SourceNode). refers_back st from l m) (ap (records_at node_codec t at) q ∙ run_join t at (min n i) (n - min n i))
          ∙ refers_join st from (records_at node_codec t at (min n i)) (records_at node_codec t (at + 49 * min n i) (n - min n i)) m) ∙ none_back m)).0
