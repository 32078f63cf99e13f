-- Rubies whose base and reading are plain contents of a store of one layer: each content is one call, and nothing lies below.
use Rattle.std.specs.Prelude.{◌≡◌, ℕ, ◌+◌, ◌*◌, ◌≤◌, ◌<◌, Bool, true, false, ◌&&◌, List, [], ◌∷◌, length, get_or, leb, ltb, eqb, Option, Some, None}
use Rattle.std.proofs.Math.Path.{refl}
use Rattle.std.proofs.Common.{sym, ap, ap₂, ◌∙◌, arith}
use borrow.Author.Tests.{le-leb, lt-leb, eq-eqb, ne_eqb, leb-true, eqb-true, eqb-false}
use Rattle.model.specs.Lists.{all}
use Rattle.model.specs.Bytes.{byte_at}
use Rattle.model.specs.Types.{Body, Content}
use Rattle.model.specs.WellFormed.{word_of}
use Rattle.model.specs.Tape.{record_at, records_at, content_codec, node_codec, fields_of, field_table, node_fields}
use Rattle.facts.specs.Truth.{both, by_bool}
use Rattle.laws.specs.Records.{run_length}
use Rattle.records.specs.Values.{body_at, node_body}
use Rattle.places.specs.declared.Run.{Run}
use Rattle.store.specs.Pools.{range_in}
use Rattle.store.specs.Standing.{content_place}
use Rattle.store.specs.Stored.{OfTape}
use Rattle.store.specs.declared.Store.{Store}
use Rattle.ids.specs.Tests.{contents_in}
use Rattle.sizes.specs.Added.{Added, nothing, add, add_all, add_nothing, same_added}
use Rattle.sizes.specs.Capped.{less, less_then, less_stop}
use Rattle.sizes.specs.InPlace.{content_count, content_adds, contents_add, content_run_adds, fields_add, field_adds, inner_adds, node_adds, contents_inside, content_count_in}
use Rattle.sizes.specs.Answers.{above_zero, node_class}
use Rattle.sizes.specs.OneLayer.{only_range, only_layer}
use Rattle.sizes.specs.declared.Left.{Left}

-- ---- definitions

-- n plain contents: n calls
abbrev pub plain_adds : ℕ → Added
plain_adds n = record { contents = n; segments = 0; calls = n }

unfoldable pub is_plain : Content → Bool
is_plain c = eqb c.tag 0

-- a range of these contents, all plain
unfoldable pub plain_run : List ℕ → Run → ℕ → ℕ → Bool
plain_run t p start len = leb (start + len) p.count && all is_plain (records_at content_codec t (p.at + 10 * start) len)

-- a Ruby of two such ranges, where a node stands
unfoldable pub plain_ruby : List ℕ → Run → ℕ → Bool
plain_ruby t p at =
    let b = body_at t (at + 15) in
    ltb (byte_at t (at + 1)) 2 && (eqb (byte_at t (at + 15)) 1 && (plain_run t p (word_of b 0) (word_of b 1) && plain_run t p (word_of b 2) (word_of b 3)))

-- the ranges of these contents are ranges of the store, and stand where they stand; of none, at the tape's start
pub record Whole (st : Store) (p : Run) : Type 0 where
  pub range : (start len : ℕ) → start + len ≤ p.count → contents_in st start len ≡ true
  pub place : (start : ℕ) → start < p.count → content_place st start ≡ p.at + 10 * start
  pub none : p.count ≡ 0 → p.at ≡ 0

-- ---- a store of one layer

empty_in : (st : Store) → contents_in st 0 0 ≡ true
unfolding range_in
empty_in st = rw (le-leb 0 st.totals.contents (omega arith)) refl

pub whole_none : (st : Store) (p : Run) → p.at ≡ 0 → p.count ≡ 0 → Whole st p
whole_none st p a z = record {
  none = λ q. a;
  range = λ start len h.
      let a : start ≡ 0 = omega (arith, h, z) in
      let b : len ≡ 0 = omega (arith, h, z) in
      rw (a, b) (empty_in st);
  place = λ start h. absurd (omega (arith, h, z));
}

module _ (st : Store) (one : st.layers ≡ 1) (first : get_or st.contents 0 0 ≡ 0) where
  only_place : (start : ℕ) → content_place st start ≡ content_place st 0 + 10 * start
  unfolding content_place
  only_place start = rw (only_layer st.contents st.layers one first start, only_layer st.contents st.layers one first 0) (omega arith)

  pub whole_only : (p : Run) → p.at ≡ content_place st 0 → p.count ≡ st.totals.contents → (st.totals.contents ≡ 0 → ⊥) → Whole st p
  whole_only p a c n = record {
    none = λ z. absurd (n (sym c ∙ z));
    range = λ start len h. only_range st.contents st.layers one first st.totals.contents start len (omega (arith, h, c));
    place = λ start h. only_place start ∙ ap (λ (k : ℕ). k + 10 * start) (sym a);
  }

-- the contents lie inside of the tape
pub whole_inside : (t : List ℕ) (st : Store) (f : OfTape t st) (p : Run) → Whole st p → p.at + 10 * p.count ≤ length t
whole_inside t st f p w =
    by_bool (eqb p.count 0)
    (λ z. let e = eqb-true p.count 0 z in let a = w.none e in omega (arith, e, a))
    (λ z.
    let n = eqb-false p.count 0 z in
    let e : p.count ≡ content_count st 0 p.count = content_count_in st 0 p.count (sym (w.range 0 p.count (omega arith))) refl in
    let a : p.at ≡ content_place st 0 = let m = above_zero p.count n in let q = w.place 0 (omega (arith, m)) in omega (arith, q) in
    contents_inside t st f 0 p.count p.count p.at n e a)

-- ---- a range of plain contents

plain_all : (inner : Body → Added) (t : List ℕ) (st : Store) (cs : List Content) → all is_plain cs ≡ true → add_all (content_adds inner t st) cs ≡ record { contents = 0; segments = 0; calls = length cs }
unfolding add_all content_adds is_plain add
plain_all inner t st [] h = refl
plain_all inner t st (c ∷ cs) h =
    let b = both (eqb c.tag 0) (all is_plain cs) h in
    rw (b.0, plain_all inner t st cs b.1) (same_added refl refl (omega arith))

module _ (inner : Body → Added) (t : List ℕ) (st : Store) (p : Run) (w : Whole st p) where
  run_adds : (start len : ℕ) → plain_run t p start len ≡ true → content_run_adds inner t st start len ≡ plain_adds len
  unfolding plain_run content_run_adds content_count contents_add records_at add_all add
  run_adds start len h =
      let b = both (leb (start + len) p.count) (all is_plain (records_at content_codec t (p.at + 10 * start) len)) h in
      let inside = leb-true (start + len) p.count b.0 in
      by_bool (eqb len 0)
      (λ z. let e = eqb-true len 0 z in rw (w.range start len inside, e) (add_nothing nothing))
      (λ z.
      let n = eqb-false len 0 z in
      let m = above_zero len n in
      let q = w.place start (omega (arith, m, inside)) in
      rw (w.range start len inside, q, plain_all inner t st _ b.1, run_length content_codec t (p.at + 10 * start) len) (same_added (omega arith) refl (omega arith)))

-- ---- a Ruby

ruby_fields : (inner : Body → Added) (t : List ℕ) (st : Store) (b : Body) → b.kind ≡ 1
    → fields_add inner t st b (fields_of b) ≡ add (content_run_adds inner t st (word_of b 0) (word_of b 1)) (content_run_adds inner t st (word_of b 2) (word_of b 3))
unfolding fields_add fields_of field_table add_all field_adds
ruby_fields inner t st b e = rw e (ap (add (content_run_adds inner t st (word_of b 0) (word_of b 1))) (add_nothing (content_run_adds inner t st (word_of b 2) (word_of b 3))))

kind_at : (t : List ℕ) (p : ℕ) → (body_at t p).kind ≡ byte_at t p
unfolding body_at
kind_at t p = refl

pub ruby_adds : (s : Left) (t : List ℕ) (st : Store) (p : Run) (w : Whole st p) (at : ℕ) {r : Option Left} → plain_ruby t p at ≡ true
    → r ≡ less s (add (plain_adds (word_of (body_at t (at + 15)) 1)) (plain_adds (word_of (body_at t (at + 15)) 3)))
    → r ≡ less s (node_adds t st (record_at node_codec t at))
unfolding plain_ruby node_adds node_fields
ruby_adds s t st p w at h q =
    let b = body_at t (at + 15) in
    let one = both (ltb (byte_at t (at + 1)) 2) _ h in
    let two = both (eqb (byte_at t (at + 15)) 1) _ one.1 in
    let three = both (plain_run t p (word_of b 0) (word_of b 1)) (plain_run t p (word_of b 2) (word_of b 3)) two.1 in
    let inner = inner_adds 33 t st in
    let body : fields_add inner t st b (fields_of b) ≡ add (plain_adds (word_of b 1)) (plain_adds (word_of b 3)) =
    ruby_fields inner t st b (kind_at t (at + 15) ∙ eqb-true (byte_at t (at + 15)) 1 two.0)
    ∙ ap₂ (λ (x y : Added). add x y) (run_adds inner t st p w (word_of b 0) (word_of b 1) three.0) (run_adds inner t st p w (word_of b 2) (word_of b 3) three.1) in
    q ∙ ap (less s) (sym body ∙ ap (λ (x : Body). fields_add inner t st x (fields_of x)) (node_body t at))
    ∙ rw (← node_class t at, one.0) refl

-- ---- the code's answers

module _ (t : Left) (a b : ℕ) {x y : ℕ} (e : a ≡ x) (f : b ≡ y) where
  both_read : add (plain_adds a) (plain_adds b) ≡ add (plain_adds x) (plain_adds y)
  both_read = λ i. add (plain_adds (e i)) (plain_adds (f i))

  pub ruby_over : None ≡ less t (plain_adds a) → None ≡ less t (add (plain_adds x) (plain_adds y))
  ruby_over p = less_stop t (plain_adds a) p (plain_adds b) ∙ ap (less t) both_read

  pub ruby_read : {u : Left} → Some u ≡ less t (plain_adds a) → {r : Option Left} → r ≡ less u (plain_adds b) → r ≡ less t (add (plain_adds x) (plain_adds y))
  ruby_read p q = q ∙ less_then t (plain_adds a) p (plain_adds b) ∙ ap (less t) both_read

module _ (t : List ℕ) (p : Run) (start len : ℕ) where
  pub plain_over : p.count < start + len → false ≡ plain_run t p start len
  unfolding plain_run
  plain_over h = rw (lt-leb (start + len) p.count h) refl

  pub plain_told : {r : Bool} (at n : ℕ) → at ≡ p.at + 10 * start → n ≡ len → start + len ≤ p.count → r ≡ all is_plain (records_at content_codec t at n) → r ≡ plain_run t p start len
  unfolding plain_run
  plain_told at n e f h q = rw (le-leb (start + len) p.count h, ← e, ← f) q

module _ (t : List ℕ) (p : Run) (at : ℕ) where
  pub ruby_class : ltb (byte_at t (at + 1)) 2 ≡ false → false ≡ plain_ruby t p at
  unfolding plain_ruby
  ruby_class h = rw h refl

  module _ (c : ltb (byte_at t (at + 1)) 2 ≡ true) where
    pub ruby_other : (byte_at t (at + 15) ≡ 1 → ⊥) → false ≡ plain_ruby t p at
    unfolding plain_ruby
    ruby_other n = rw (c, ne_eqb (byte_at t (at + 15)) 1 n) refl

    module _ (k : byte_at t (at + 15) ≡ 1) {a b : ℕ} (x : a ≡ word_of (body_at t (at + 15)) 0) (y : b ≡ word_of (body_at t (at + 15)) 1) where
      pub ruby_base : plain_run t p a b ≡ false → false ≡ plain_ruby t p at
      unfolding plain_ruby
      ruby_base n = rw (c, eq-eqb (byte_at t (at + 15)) 1 k, ← x, ← y, n) refl

      pub ruby_told : {d e : ℕ} {r : Bool} → d ≡ word_of (body_at t (at + 15)) 2 → e ≡ word_of (body_at t (at + 15)) 3 → plain_run t p a b ≡ true → r ≡ plain_run t p d e → r ≡ plain_ruby t p at
      unfolding plain_ruby
      ruby_told v w n q = rw (c, eq-eqb (byte_at t (at + 15)) 1 k, ← x, ← y, ← v, ← w, n) q
