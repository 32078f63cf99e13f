-- What the graft of a body, of a run of contents and of a run of segments adds, by the starts that a store remembers: what the
-- code computes. A range that does not pass number 4 stands for no items, so that nothing here asks for number 4.
use Rattle.std.specs.Prelude.{◌≡◌, Bool, true, false, cond, List, length, ltb, eqb}
use Rattle.std.proofs.Math.Path.{refl, ap, ap₂}
use Rattle.std.proofs.Common.{sym, ◌∙◌, arith, zero-add}
use Prim.Native.Nat.{ℕ, zero, suc, ◌+◌, ◌*◌, ◌≤◌, ◌<◌}
use borrow.Author.Tests.{eqb-true, ltb-true, ltb-false}
use Rattle.model.specs.Lists.{tabulate}
use Rattle.model.specs.Bytes.{byte_at}
use Rattle.model.specs.Limits.{no_string}
use Rattle.model.specs.Types.{Body, Content, Segment, SourceNode}
use Rattle.model.specs.WellFormed.{word_of}
use Rattle.model.specs.Tape.{Field, Field.str, Field.opt_str, Field.content_range, Field.seg_range, fields_of, node_fields}
use Rattle.model.specs.Tape.{Codec, record_size, record_at, records_at, content_codec, segment_codec, node_codec}
use Rattle.facts.specs.Truth.{by_bool}
use Rattle.records.specs.Values.{body_at}
use Rattle.records.specs.Uses.{word_use}
use Rattle.store.specs.Standing.{content_place, segment_place, content_inside, segment_inside}
use Rattle.store.specs.declared.Store.{Store}
use Rattle.ids.specs.Tests.{contents_in, segments_in}
use Rattle.store.specs.Stored.{OfTape}
use Rattle.levels.specs.Below.{range_within}
use Rattle.sizes.specs.Added.{Added, nothing, one_call, add, add_all, add_nothing, all_append}
use Rattle.sizes.specs.Trees.{run_of_contents, run_of_segments}
use Rattle.sizes.specs.Order.{field_word, field_from, place_field, place_fields, fields_in_order}
use Rattle.sizes.specs.Capped.{add_from, added_tabulate}
use Rattle.sizes.specs.Words.{UsedWords}

-- ---- definitions; `inner` is what the body of a segment adds

-- how many items a range names
unfoldable pub content_count : Store → ℕ → ℕ → ℕ
content_count st start len = cond (contents_in st start len) len 0

unfoldable pub segment_count : Store → ℕ → ℕ → ℕ
segment_count st start len = cond (segments_in st start len) len 0

-- the segments that stand from `at` on
unfoldable pub segments_add : (Body → Added) → List ℕ → ℕ → ℕ → Added
segments_add inner t at n = add_all (λ (s : Segment). inner s.body) (records_at segment_codec t at n)

unfoldable pub segment_run_adds : (Body → Added) → List ℕ → Store → ℕ → ℕ → Added
segment_run_adds inner t st start len =
    let n = segment_count st start len in
    run_of_segments n (segments_add inner t (segment_place st start) n)

unfoldable pub content_adds : (Body → Added) → List ℕ → Store → Content → Added
content_adds inner t st c = cond (eqb c.tag 0) one_call (segment_run_adds inner t st c.first c.second)

-- the contents that stand from `at` on
unfoldable pub contents_add : (Body → Added) → List ℕ → Store → ℕ → ℕ → Added
contents_add inner t st at n = add_all (content_adds inner t st) (records_at content_codec t at n)

unfoldable pub content_run_adds : (Body → Added) → List ℕ → Store → ℕ → ℕ → Added
content_run_adds inner t st start len =
    let n = content_count st start len in
    run_of_contents n (contents_add inner t st (content_place st start) n)

unfoldable pub field_adds : (Body → Added) → List ℕ → Store → Body → Field → Added
field_adds inner t st b (str i) = one_call
field_adds inner t st b (opt_str i) = cond (eqb (word_of b i) no_string) nothing one_call
field_adds inner t st b (content_range i) = content_run_adds inner t st (word_of b i) (word_of b (i + 1))
field_adds inner t st b (seg_range i) = segment_run_adds inner t st (word_of b i) (word_of b (i + 1))

unfoldable pub fields_add : (Body → Added) → List ℕ → Store → Body → List Field → Added
fields_add inner t st b fs = add_all (field_adds inner t st b) fs

-- the body of a segment in a run that a body of level l names; none below level 0
unfoldable pub inner_adds : ℕ → List ℕ → Store → Body → Added
inner_adds zero t st b = nothing
inner_adds (suc l) t st b = fields_add (λ x. inner_adds l t st x) t st b (fields_of b)

-- a body of level l
unfoldable pub body_adds : ℕ → List ℕ → Store → Body → Added
body_adds l t st b = fields_add (inner_adds l t st) t st b (fields_of b)

-- a node's body is of level 33
unfoldable pub node_adds : List ℕ → Store → SourceNode → Added
node_adds t st n = fields_add (inner_adds 33 t st) t st n.body (node_fields n)

unfoldable pub nodes_add : List ℕ → Store → ℕ → ℕ → Added
nodes_add t st at n = add_all (node_adds t st) (records_at node_codec t at n)

-- ---- the field at each place

-- its use, the word at which it begins, and the word behind that
abbrev pub field_words : Body → ℕ → UsedWords
field_words b j = record {
  usage = word_use b.kind b.tag (field_word b.kind j);
  first = word_of b (field_word b.kind j);
  second = word_of b (field_word b.kind j + 1);
}

unfoldable pub string_adds : ℕ → ℕ → Added
string_adds u w = cond (eqb u 1) one_call (cond (eqb u 2) (cond (eqb w no_string) nothing one_call) nothing)

unfoldable pub used_adds : (Body → Added) → List ℕ → Store → UsedWords → Added
used_adds inner t st f =
    cond (eqb f.usage 3) (content_run_adds inner t st f.first f.second)
    (cond (eqb f.usage 5) (segment_run_adds inner t st f.first f.second) (string_adds f.usage f.first))

-- what the field at place j adds
unfoldable pub place_adds : (Body → Added) → List ℕ → Store → Body → ℕ → Added
place_adds inner t st b j = used_adds inner t st (field_words b j)

module _ (inner : Body → Added) (t : List ℕ) (st : Store) (b : Body) where
  pub from_adds : (u i : ℕ) → add_all (field_adds inner t st b) (field_from u i) ≡ used_adds inner t st (record { usage = u; first = word_of b i; second = word_of b (i + 1) })
  unfolding field_from add_all field_adds used_adds string_adds
  from_adds u i =
      by_bool (eqb u 1) (λ e. let q : u ≡ 1 = eqb-true u 1 e in rw q (add_nothing one_call))
      (λ e. rw e (by_bool (eqb u 2) (λ f. let q : u ≡ 2 = eqb-true u 2 f in rw q (add_nothing (cond (eqb (word_of b i) no_string) nothing one_call)))
      (λ f. rw f (by_bool (eqb u 3) (λ g. rw g (add_nothing (content_run_adds inner t st (word_of b i) (word_of b (i + 1)))))
      (λ g. rw g (by_bool (eqb u 5) (λ h. rw h (add_nothing (segment_run_adds inner t st (word_of b i) (word_of b (i + 1)))))
      (λ h. rw h refl)))))))

  pub places_add : (n j : ℕ) → add_all (field_adds inner t st b) (place_fields b.kind b.tag n j) ≡ add_from (place_adds inner t st b) n j
  unfolding place_fields place_field add_from place_adds add_all
  places_add zero j = refl
  places_add (suc n) j =
      all_append (field_adds inner t st b) (place_field b.kind b.tag j) (place_fields b.kind b.tag n (j + 1))
      ∙ ap₂ (λ (x y : Added). add x y) (from_adds (word_use b.kind b.tag (field_word b.kind j)) (field_word b.kind j)) (places_add n (j + 1))

  pub body_places : fields_add inner t st b (fields_of b) ≡ add_from (place_adds inner t st b) 6 0
  unfolding fields_add fields_of
  body_places = ap (add_all (field_adds inner t st b)) (sym (fields_in_order b.kind b.tag)) ∙ places_add 6 0

-- ---- the items of a run

unfoldable pub segment_from : (Body → Added) → List ℕ → ℕ → ℕ → Added
segment_from inner t at i = inner (record_at segment_codec t (at + 37 * i)).body

unfoldable pub content_from : (Body → Added) → List ℕ → Store → ℕ → ℕ → Added
content_from inner t st at i = content_adds inner t st (record_at content_codec t (at + 10 * i))

unfoldable pub node_from : List ℕ → Store → ℕ → ℕ → Added
node_from t st at i = node_adds t st (record_at node_codec t (at + 49 * i))

records_from : {A : Type 0} (k : Codec A) (f : A → Added) (t : List ℕ) (at n : ℕ)
    → add_from (λ (i : ℕ). f (record_at k t (at + record_size k * i))) n 0 ≡ add_all f (records_at k t at n)
unfolding records_at
records_from k f t at n =
    sym (added_tabulate f n 0 (λ (i : ℕ). record_at k t (at + record_size k * i)))
    ∙ λ j. add_all f (tabulate n (λ (i : ℕ). record_at k t (at + record_size k * zero-add i j)))

module _ (t : List ℕ) (at n : ℕ) where
  pub segments_from : (inner : Body → Added) → add_from (segment_from inner t at) n 0 ≡ segments_add inner t at n
  unfolding segment_from segments_add segment_codec
  segments_from inner = records_from segment_codec (λ (s : Segment). inner s.body) t at n

  pub contents_from : (inner : Body → Added) (st : Store) → add_from (content_from inner t st at) n 0 ≡ contents_add inner t st at n
  unfolding content_from contents_add content_codec
  contents_from inner st = records_from content_codec (content_adds inner t st) t at n

  pub nodes_from_lem : (st : Store) → add_from (node_from t st at) n 0 ≡ nodes_add t st at n
  unfolding node_from nodes_add node_codec
  nodes_from_lem st = records_from node_codec (node_adds t st) t at n

-- ---- inside the tape

module _ (t : List ℕ) (st : Store) (f : OfTape t st) (start len : ℕ) (n at : ℕ) (z : n ≡ 0 → ⊥) where
  pub contents_inside : n ≡ content_count st start len → at ≡ content_place st start → at + 10 * n ≤ length t
  unfolding content_count
  contents_inside e p =
      by_bool (contents_in st start len)
      (λ q.
      let w = range_within st.contents st.layers st.totals.contents start len q in
      let m : n ≡ len = e ∙ rw q refl in
      let pos : 0 < n = positive in
      let i = content_inside t st f.stored start len (omega (arith, w, m, pos)) w in
      omega (arith, i, p, m, f.inside))
      (λ q. absurd (z (e ∙ rw q refl)))
    where
      positive : 0 < n
      positive = by_bool (ltb 0 n) (λ s. ltb-true 0 n s) (λ s. absurd (z (let l = ltb-false 0 n s in omega (arith, l))))

  pub segments_inside : n ≡ segment_count st start len → at ≡ segment_place st start → at + 37 * n ≤ length t
  unfolding segment_count
  segments_inside e p =
      by_bool (segments_in st start len)
      (λ q.
      let w = range_within st.segments st.layers st.totals.segments start len q in
      let m : n ≡ len = e ∙ rw q refl in
      let pos : 0 < n = positive in
      let i = segment_inside t st f.stored start len (omega (arith, w, m, pos)) w in
      omega (arith, i, p, m, f.inside))
      (λ q. absurd (z (e ∙ rw q refl)))
    where
      positive : 0 < n
      positive = by_bool (ltb 0 n) (λ s. ltb-true 0 n s) (λ s. absurd (z (let l = ltb-false 0 n s in omega (arith, l))))

-- ---- the code's answers

module _ (st : Store) (start len : ℕ) where
  pub content_count_in : {r : Bool} → r ≡ contents_in st start len → r ≡ true → len ≡ content_count st start len
  unfolding content_count
  content_count_in e q = rw (sym e ∙ q) refl

  pub content_count_out : {r : Bool} → r ≡ contents_in st start len → r ≡ false → 0 ≡ content_count st start len
  unfolding content_count
  content_count_out e q = rw (sym e ∙ q) refl

  pub segment_count_in : {r : Bool} → r ≡ segments_in st start len → r ≡ true → len ≡ segment_count st start len
  unfolding segment_count
  segment_count_in e q = rw (sym e ∙ q) refl

  pub segment_count_out : {r : Bool} → r ≡ segments_in st start len → r ≡ false → 0 ≡ segment_count st start len
  unfolding segment_count
  segment_count_out e q = rw (sym e ∙ q) refl

pub field_read : (t : List ℕ) (p j i u w next : ℕ) → i ≡ field_word (byte_at t p) j → u ≡ word_use (byte_at t p) (byte_at t (p + 1)) i
    → w ≡ word_of (body_at t p) i → next ≡ word_of (body_at t p) (i + 1)
    → ◌≡◌ {A = UsedWords} (record { usage = u; first = w; second = next }) (field_words (body_at t p) j)
unfolding body_at
field_read t p j i u w next e f g h = rw (f, g, h, e) refl
