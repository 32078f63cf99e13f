-- Number 4 by the starts that a store remembers: what the code computes for a field, a body and a record, word by word.
use Rattle.std.specs.Prelude.{◌≡◌, ℕ, ◌+◌, ◌-◌, ◌≤◌, ◌<◌, Bool, true, false, cond, ◌&&◌, ◌||◌, List, ltb, eqb}
use Rattle.std.proofs.Math.Path.{refl, sym, ap}
use Rattle.std.proofs.Common.{◌∙◌, arith}
use Rattle.std.proofs.Math.Bool.{and-true}
use borrow.Author.Tests.{ne_eqb, ltb-true, ltb-false}
use Rattle.model.specs.Lists.{all}
use Rattle.model.specs.Bytes.{byte_at}
use Rattle.model.specs.Limits.{no_string}
use Rattle.model.specs.Types.{Body, Content, Segment, SourceNode}
use Rattle.model.specs.WellFormed.{word_of}
use Rattle.model.specs.Tape.{Field, Field.str, Field.opt_str, Field.content_range, Field.seg_range, field_table, fields_of, node_fields, record_at, operands_at, segment_codec, node_codec}
use Rattle.facts.specs.Truth.{by_bool}
use Rattle.wire.specs.Loops.{all_up_to, Passed, all_passed, all_failed}
use Rattle.records.specs.Values.{body_at, segment_body, node_body}
use Rattle.records.specs.Uses.{word_use, uses_of, use_among}
use Rattle.records.specs.declared.Use.{Use}
use Rattle.records.proofs.Uses.{uses_right, unused_from}
use Rattle.records.specs.Words.{word_test, all_by_words}
use Rattle.store.specs.Pools.{range_in}
use Rattle.store.specs.declared.Store.{Store}

-- ---- ids and ranges

abbrev pub string_in : Store → ℕ → Bool
string_in st id = ltb id st.totals.strings

abbrev pub contents_in : Store → ℕ → ℕ → Bool
contents_in st start len = range_in st.contents st.layers st.totals.contents start len

abbrev pub segments_in : Store → ℕ → ℕ → Bool
segments_in st start len = range_in st.segments st.layers st.totals.segments start len

-- ---- fields, bodies, records

-- Number 4. Only an id that may be missing may be 0xFFFFFFFF.
unfoldable pub field_in : Store → Body → Field → Bool
field_in st b (str i) = string_in st (word_of b i)
field_in st b (opt_str i) = eqb (word_of b i) no_string || string_in st (word_of b i)
field_in st b (content_range i) = contents_in st (word_of b i) (word_of b (i + 1))
field_in st b (seg_range i) = segments_in st (word_of b i) (word_of b (i + 1))

unfoldable pub body_in : Store → Body → Bool
body_in st b = all (field_in st b) (fields_of b)

unfoldable pub content_in : Store → Content → Bool
content_in st c = cond (eqb c.tag 0) (string_in st c.first) (segments_in st c.first c.second)

unfoldable pub segment_in : Store → Segment → Bool
segment_in st s = body_in st s.body

unfoldable pub node_in : Store → SourceNode → Bool
node_in st n = all (field_in st n.body) (node_fields n)

-- ---- word by word

-- what a word w of that use, and the word behind it, must be
unfoldable pub used_well : Store → ℕ → ℕ → ℕ → Bool
used_well st u w next =
    cond (eqb u 1) (string_in st w) (cond (eqb u 2) (eqb w no_string || string_in st w) (cond (eqb u 3) (contents_in st w next) (cond (eqb u 5) (segments_in st w next) true)))

-- the field that begins at word i of a body
unfoldable pub word_in : Store → Body → ℕ → Bool
word_in st b i = used_well st (word_use b.kind b.tag i) (word_of b i) (word_of b (i + 1))

-- behind the sixth word there is none
pub no_seventh : (t : List ℕ) (p i : ℕ) → 5 ≤ i → i < 6 → 0 ≡ word_of (body_at t p) (i + 1)
unfolding body_at
no_seventh t p i h l = let e : i ≡ 5 = omega arith in rw e refl

module _ (st : Store) (u w next : ℕ) where
  pub used_string : u ≡ 1 → used_well st u w next ≡ string_in st w
  unfolding used_well
  used_string e = rw e refl

  pub used_optional : u ≡ 2 → (w ≡ no_string → ⊥) → used_well st u w next ≡ string_in st w
  unfolding used_well
  used_optional e n = rw (e, ne_eqb w no_string n) refl

  pub used_contents : u ≡ 3 → used_well st u w next ≡ contents_in st w next
  unfolding used_well
  used_contents e = rw e refl

  pub used_segments : u ≡ 5 → used_well st u w next ≡ segments_in st w next
  unfolding used_well
  used_segments e = rw e refl

-- word i by its use, as the code has it
module _ (st : Store) (t : List ℕ) (p i : ℕ) {us : List Use} (e : us ≡ uses_of (byte_at t p) (byte_at t (p + 1))) (h : i < 6) where
  use_read : use_among us i ≡ word_use (byte_at t p) (byte_at t (p + 1)) i
  use_read = ap (λ (k : List Use). use_among k i) e ∙ uses_right (byte_at t p) (byte_at t (p + 1)) i h

  pub word_read : {r : Bool} → r ≡ used_well st (use_among us i) (word_of (body_at t p) i) (word_of (body_at t p) (i + 1)) → word_in st (body_at t p) i ≡ r
  unfolding word_in body_at
  word_read q = sym (q ∙ ap (λ (k : ℕ). used_well st k (word_of (body_at t p) i) (word_of (body_at t p) (i + 1))) use_read)

module _ (st : Store) (b : Body) where
  body_words : body_in st b ≡ all_up_to 6 (word_in st b)
  unfolding body_in fields_of word_in used_well word_test field_in
  body_words = all_by_words (field_in st b) b.kind b.tag

  pub body_passed : (i : ℕ) → 6 ≤ i → i ≤ 6 → Passed (word_in st b) i → true ≡ body_in st b
  body_passed i h l p = let e : i ≡ 6 = omega arith in sym (body_words ∙ all_passed (word_in st b) 6 (rw e at p))

  pub body_failed : (i : ℕ) → i < 6 → word_in st b i ≡ false → false ≡ body_in st b
  body_failed i h f = sym (body_words ∙ all_failed (word_in st b) 6 i h f)

-- the words from the first unused one on
pub body_rest : (st : Store) (t : List ℕ) (p i : ℕ) {us : List Use} → us ≡ uses_of (byte_at t p) (byte_at t (p + 1)) → i < 6 → use_among us i ≡ 0
    → Passed (word_in st (body_at t p)) i → true ≡ body_in st (body_at t p)
unfolding word_in used_well body_at
body_rest st t p i e h z m = body_passed st (body_at t p) 6 (omega arith) (omega arith) (record { all = λ k b. by_bool (ltb k i) (λ s. m.all k (ltb-true k i s)) (λ s. behind k b (ltb-false k i s)) })
  where
    behind : (k : ℕ) → k < 6 → i ≤ k → word_in st (body_at t p) k ≡ true
    behind k b l =
        let q : i + (k - i) ≡ k = omega arith in
        let n : word_use (byte_at t p) (byte_at t (p + 1)) k ≡ 0 =
        ap (word_use (byte_at t p) (byte_at t (p + 1))) (sym q) ∙ unused_from (byte_at t p) (byte_at t (p + 1)) i (k - i) (omega arith) (sym (use_read st t p i e h) ∙ z) in
        rw n refl

-- ---- a Ruby

-- its base and its reading, each a range of contents
unfoldable pub two_runs : List ℕ → ℕ → ℕ → Body → Bool
two_runs starts layers total b = range_in starts layers total (word_of b 0) (word_of b 1) && range_in starts layers total (word_of b 2) (word_of b 3)

-- kind 1 has no other field
pub ruby_body : (st : Store) (t : List ℕ) (p : ℕ) → byte_at t p ≡ 1 → two_runs st.contents st.layers st.totals.contents (body_at t p) ≡ body_in st (body_at t p)
unfolding two_runs body_in fields_of field_table field_in body_at
ruby_body st t p e = rw (e, and-true) refl

-- ---- the code's answers of single records

module _ (st : Store) where
  pub content_plain : (c : Content) {r : Bool} → eqb c.tag 0 ≡ true → r ≡ string_in st c.first → r ≡ content_in st c
  unfolding content_in
  content_plain c e a = rw e a

  pub content_segments_lem : (c : Content) {r : Bool} → eqb c.tag 0 ≡ false → r ≡ segments_in st c.first c.second → r ≡ content_in st c
  unfolding content_in
  content_segments_lem c n a = rw n a

  module _ (t : List ℕ) (p : ℕ) where
    pub segment_answer : (r : Bool) → r ≡ body_in st (body_at t (p + 3)) → r ≡ segment_in st (record_at segment_codec t p)
    unfolding segment_in
    segment_answer r a = a ∙ ap (body_in st) (segment_body t p)

    node_class : byte_at t (p + 1) ≡ (record_at node_codec t p).class
    unfolding record_at operands_at node_codec
    node_class = refl

    -- classes 2 and 3 have no words
    pub node_bare : ltb (byte_at t (p + 1)) 2 ≡ false → true ≡ node_in st (record_at node_codec t p)
    unfolding node_in node_fields
    node_bare h = rw (← node_class, h) refl

    pub node_answer_lem : {r : Bool} → ltb (byte_at t (p + 1)) 2 ≡ true → r ≡ body_in st (body_at t (p + 15)) → r ≡ node_in st (record_at node_codec t p)
    unfolding node_in node_fields body_in
    node_answer_lem h a = rw (← node_class, h) (a ∙ ap (body_in st) (node_body t p))
