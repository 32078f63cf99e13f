-- Number 5 by the starts that a store remembers: what the code computes. A range is looked at again before it is read, so that
-- nothing here asks for number 4.
use Rattle.std.specs.Prelude.{◌≡◌, ℕ, ◌+◌, ◌-◌, ◌*◌, ◌≤◌, ◌<◌, Bool, true, false, cond, ◌&&◌, List, length, leb, ltb, eqb}
use Rattle.std.proofs.Math.Path.{refl, sym, ap}
use Rattle.std.proofs.Common.{◌∙◌, arith}
use borrow.Author.Tests.{lt-ltb, le-ltb, leb-true, ltb-true, ltb-false}
use Rattle.model.specs.Lists.{all}
use Rattle.model.specs.Bytes.{byte_at}
use Rattle.model.specs.Limits.{max_level}
use Rattle.model.specs.Types.{Body, Content, Segment}
use Rattle.model.specs.WellFormed.{word_of}
use Rattle.model.specs.Tape.{Field, Field.str, Field.opt_str, Field.content_range, Field.seg_range, fields_of, record_at, records_at, operands_at, content_codec, segment_codec}
use Rattle.facts.specs.Truth.{both, by_bool}
use Rattle.wire.specs.Loops.{all_up_to, Passed, all_passed, all_failed}
use Rattle.records.specs.Values.{body_at, segment_body}
use Rattle.records.specs.Uses.{word_use, uses_of, use_among, use_number}
use Rattle.records.specs.declared.Use.{Use}
use Rattle.records.specs.declared.Use.TheVariants.{Unused, Str, OptStr, Contents, ContentsLen, Segments, SegmentsLen}
use Rattle.records.proofs.Uses.{uses_right, unused_from}
use Rattle.records.specs.Words.{word_test, all_by_words}
use Rattle.store.specs.Pools.{range_in}
use Rattle.store.specs.Stored.{OfTape}
use Rattle.store.specs.Standing.{content_place, segment_place, content_inside, segment_inside}
use Rattle.store.specs.declared.Store.{Store}
use Rattle.ids.specs.Tests.{contents_in, segments_in}
use Rattle.level_blocks.specs.Level.{below}

-- ---- definitions

-- a range of segments, all of them below a level
unfoldable pub segments_below : List ℕ → Store → ℕ → ℕ → ℕ → Bool
segments_below t st level start len = segments_in st start len && all (below level) (records_at segment_codec t (segment_place st start) len)

unfoldable pub content_below : List ℕ → Store → ℕ → Content → Bool
content_below t st level c = cond (eqb c.tag 0) true (segments_below t st level c.first c.second)

unfoldable pub contents_below : List ℕ → Store → ℕ → ℕ → ℕ → Bool
contents_below t st level start len = contents_in st start len && all (content_below t st level) (records_at content_codec t (content_place st start) len)

unfoldable pub field_below : List ℕ → Store → ℕ → Body → Field → Bool
field_below t st level b (str i) = true
field_below t st level b (opt_str i) = true
field_below t st level b (content_range i) = contents_below t st level (word_of b i) (word_of b (i + 1))
field_below t st level b (seg_range i) = segments_below t st level (word_of b i) (word_of b (i + 1))

unfoldable pub body_below : List ℕ → Store → ℕ → Body → Bool
body_below t st level b = all (field_below t st level b) (fields_of b)

-- Section 4. Level: 0 for segment tags 0..2; a Node segment's is 1..32 and above every level in the runs that it names.
unfoldable pub level_in : List ℕ → Store → Segment → Bool
level_in t st s = cond (ltb s.tag 3) (eqb s.level 0) (leb 1 s.level && leb s.level max_level && body_below t st s.level s.body)

-- ---- word by word

unfoldable pub used_below : List ℕ → Store → ℕ → ℕ → ℕ → ℕ → Bool
used_below t st level u w next =
    cond (eqb u 1) true (cond (eqb u 2) true (cond (eqb u 3) (contents_below t st level w next) (cond (eqb u 5) (segments_below t st level w next) true)))

-- a word of another use
pub used_other : (t : List ℕ) (st : Store) (level w next : ℕ) (u : Use) → (u ≡ Contents → ⊥) → (u ≡ Segments → ⊥) → true ≡ used_below t st level (use_number u) w next
unfolding used_below
used_other t st level w next Unused a b = refl
used_other t st level w next Str a b = refl
used_other t st level w next OptStr a b = refl
used_other t st level w next Contents a b = absurd (a refl)
used_other t st level w next ContentsLen a b = refl
used_other t st level w next Segments a b = absurd (b refl)
used_other t st level w next SegmentsLen a b = refl

unfoldable pub word_below : List ℕ → Store → ℕ → Body → ℕ → Bool
word_below t st level b i = used_below t st level (word_use b.kind b.tag i) (word_of b i) (word_of b (i + 1))

-- word i by its use, as the code has it
module _ (t : List ℕ) (st : Store) (level p i : ℕ) {us : List Use} (e : us ≡ uses_of (byte_at t p) (byte_at t (p + 1))) (h : i < 6) where
  use_read : use_among us i ≡ word_use (byte_at t p) (byte_at t (p + 1)) i
  use_read = ap (λ (k : List Use). use_among k i) e ∙ uses_right (byte_at t p) (byte_at t (p + 1)) i h

  pub word_read : {r : Bool} → r ≡ used_below t st level (use_among us i) (word_of (body_at t p) i) (word_of (body_at t p) (i + 1)) → word_below t st level (body_at t p) i ≡ r
  unfolding word_below body_at
  word_read q = sym (q ∙ ap (λ (k : ℕ). used_below t st level k (word_of (body_at t p) i) (word_of (body_at t p) (i + 1))) use_read)

module _ (t : List ℕ) (st : Store) (level : ℕ) (b : Body) where
  body_words : body_below t st level b ≡ all_up_to 6 (word_below t st level b)
  unfolding body_below fields_of word_below used_below word_test field_below
  body_words = all_by_words (field_below t st level b) b.kind b.tag

  pub body_passed : (i : ℕ) → 6 ≤ i → i ≤ 6 → Passed (word_below t st level b) i → true ≡ body_below t st level b
  body_passed i h l p = let e : i ≡ 6 = omega arith in sym (body_words ∙ all_passed (word_below t st level b) 6 (rw e at p))

  pub body_failed : (i : ℕ) → i < 6 → word_below t st level b i ≡ false → false ≡ body_below t st level b
  body_failed i h f = sym (body_words ∙ all_failed (word_below t st level b) 6 i h f)

-- the words from the first unused one on
pub body_rest : (t : List ℕ) (st : Store) (level p i : ℕ) {us : List Use} → us ≡ uses_of (byte_at t p) (byte_at t (p + 1)) → i < 6 → use_among us i ≡ 0
    → Passed (word_below t st level (body_at t p)) i → true ≡ body_below t st level (body_at t p)
unfolding word_below used_below body_at
body_rest t st level p i e h z m = body_passed t st level (body_at t p) 6 (omega arith) (omega arith) (record { all = λ k b. by_bool (ltb k i) (λ s. m.all k (ltb-true k i s)) (λ s. behind k b (ltb-false k i s)) })
  where
    behind : (k : ℕ) → k < 6 → i ≤ k → word_below t st level (body_at t p) k ≡ true
    behind k b l =
        let q : i + (k - i) ≡ k = omega arith in
        let n : word_use (byte_at t p) (byte_at t (p + 1)) k ≡ 0 =
        ap (word_use (byte_at t p) (byte_at t (p + 1))) (sym q) ∙ unused_from (byte_at t p) (byte_at t (p + 1)) i (k - i) (omega arith) (sym (use_read t st level p i e h) ∙ z) in
        rw n refl

-- ---- the code's answers

pub range_within : (starts : List ℕ) (layers total start len : ℕ) → range_in starts layers total start len ≡ true → start + len ≤ total
unfolding range_in
range_within starts layers total start len h = leb-true (start + len) total (both (leb (start + len) total) _ h).0

module _ (t : List ℕ) (st : Store) (level start len : ℕ) where
  pub segments_out : {r : Bool} → r ≡ segments_in st start len → r ≡ false → false ≡ segments_below t st level start len
  unfolding segments_below
  segments_out e n = rw (sym e ∙ n) refl

  pub segments_none : {r : Bool} → r ≡ segments_in st start len → r ≡ true → len ≡ 0 → true ≡ segments_below t st level start len
  unfolding segments_below records_at
  segments_none e n z = rw (sym e ∙ n, z) refl

  pub segments_read : {r q : Bool} → r ≡ segments_in st start len → r ≡ true → (at : ℕ) → at ≡ segment_place st start → q ≡ all (below level) (records_at segment_codec t at len)
      → q ≡ segments_below t st level start len
  unfolding segments_below
  segments_read e n at p a = rw (sym e ∙ n) (a ∙ ap (λ (x : ℕ). all (below level) (records_at segment_codec t x len)) p)

  pub segments_fit_lem : OfTape t st → {r : Bool} → r ≡ segments_in st start len → r ≡ true → (len ≡ 0 → ⊥) → (at : ℕ) → at ≡ segment_place st start → at + 37 * len ≤ length t
  segments_fit_lem f e n z at p =
      let w = range_within st.segments st.layers st.totals.segments start len (sym e ∙ n) in
      let pos : 0 < len = by_bool (ltb 0 len) (λ s. ltb-true 0 len s) (λ s. absurd (z (let l = ltb-false 0 len s in omega (arith, l)))) in
      let i = segment_inside t st f.stored start len (omega (arith, w, pos)) w in
      omega (arith, i, p, f.inside)

  pub contents_out : {r : Bool} → r ≡ contents_in st start len → r ≡ false → false ≡ contents_below t st level start len
  unfolding contents_below
  contents_out e n = rw (sym e ∙ n) refl

  pub contents_none : {r : Bool} → r ≡ contents_in st start len → r ≡ true → len ≡ 0 → true ≡ contents_below t st level start len
  unfolding contents_below records_at
  contents_none e n z = rw (sym e ∙ n, z) refl

  pub contents_read : {r q : Bool} → r ≡ contents_in st start len → r ≡ true → (at : ℕ) → at ≡ content_place st start → q ≡ all (content_below t st level) (records_at content_codec t at len)
      → q ≡ contents_below t st level start len
  unfolding contents_below
  contents_read e n at p a = rw (sym e ∙ n) (a ∙ ap (λ (x : ℕ). all (content_below t st level) (records_at content_codec t x len)) p)

  pub contents_fit_lem : OfTape t st → {r : Bool} → r ≡ contents_in st start len → r ≡ true → (len ≡ 0 → ⊥) → (at : ℕ) → at ≡ content_place st start → at + 10 * len ≤ length t
  contents_fit_lem f e n z at p =
      let w = range_within st.contents st.layers st.totals.contents start len (sym e ∙ n) in
      let pos : 0 < len = by_bool (ltb 0 len) (λ s. ltb-true 0 len s) (λ s. absurd (z (let l = ltb-false 0 len s in omega (arith, l)))) in
      let i = content_inside t st f.stored start len (omega (arith, w, pos)) w in
      omega (arith, i, p, f.inside)

module _ (t : List ℕ) (st : Store) (level : ℕ) (c : Content) where
  pub content_plain : eqb c.tag 0 ≡ true → true ≡ content_below t st level c
  unfolding content_below
  content_plain e = rw e refl

  pub content_segments_lem : (r : Bool) → eqb c.tag 0 ≡ false → r ≡ segments_below t st level c.first c.second → r ≡ content_below t st level c
  unfolding content_below
  content_segments_lem r n a = rw n a

-- Section 4. The level of the segment at p.
module _ (t : List ℕ) (st : Store) (p : ℕ) where
  tag_at : byte_at t (p + 1) ≡ (record_at segment_codec t p).tag
  unfolding record_at operands_at segment_codec
  tag_at = refl

  level_is : byte_at t (p + 2) ≡ (record_at segment_codec t p).level
  unfolding record_at operands_at segment_codec
  level_is = refl

  level_at : level_in t st (record_at segment_codec t p)
      ≡ cond (ltb (byte_at t (p + 1)) 3) (eqb (byte_at t (p + 2)) 0) (leb 1 (byte_at t (p + 2)) && leb (byte_at t (p + 2)) max_level && body_below t st (byte_at t (p + 2)) (body_at t (p + 3)))
  unfolding level_in
  level_at = rw (segment_body t p, tag_at, level_is) refl

  pub level_text : byte_at t (p + 1) < 3 → eqb (byte_at t (p + 2)) 0 ≡ level_in t st (record_at segment_codec t p)
  level_text h = sym (level_at ∙ rw (lt-ltb (byte_at t (p + 1)) 3 h) refl)

  module _ (h : 3 ≤ byte_at t (p + 1)) where
    pub level_out : {r : Bool} → r ≡ (leb 1 (byte_at t (p + 2)) && leb (byte_at t (p + 2)) max_level) → r ≡ false → false ≡ level_in t st (record_at segment_codec t p)
    level_out e n =
        sym (level_at ∙ rw (le-ltb (byte_at t (p + 1)) 3 h)
        (by_bool (leb 1 (byte_at t (p + 2))) (λ x. let y : leb (byte_at t (p + 2)) max_level ≡ false = rw x at (sym e ∙ n) in rw (x, y) refl) (λ x. rw x refl)))

    pub level_node : {q : Bool} → q ≡ (leb 1 (byte_at t (p + 2)) && leb (byte_at t (p + 2)) max_level) → q ≡ true → (r : Bool) → r ≡ body_below t st (byte_at t (p + 2)) (body_at t (p + 3))
        → r ≡ level_in t st (record_at segment_codec t p)
    level_node e y r a =
        let b = both (leb 1 (byte_at t (p + 2))) (leb (byte_at t (p + 2)) max_level) (sym e ∙ y) in
        a ∙ sym (level_at ∙ rw (le-ltb (byte_at t (p + 1)) 3 h, b.0, b.1) refl)
