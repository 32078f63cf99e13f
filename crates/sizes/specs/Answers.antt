-- The walk's answers: what each function has read and added, against the definitions in place.
use Rattle.std.specs.Prelude.{◌≡◌, refl, true, false, eqb, ltb, List, ℕ, zero, suc, ◌+◌, ◌-◌, Option, Some, None}
use Rattle.std.proofs.Common.{sym, ap, ◌∙◌, arith}
use Rattle.model.specs.Bytes.{byte_at}
use Rattle.model.specs.Types.{Body, Content}
use Rattle.model.specs.Tape.{node_fields, record_at, records_at, operands_at, segment_codec, node_codec}
use Rattle.records.specs.Values.{body_at, segment_body, node_body}
use Rattle.store.specs.Standing.{content_place, segment_place}
use Rattle.store.specs.declared.Store.{Store}
use Rattle.sizes.specs.Added.{Added, nothing, one_call, new_contents, new_segments, add_all}
use Rattle.sizes.specs.Capped.{less, less_nothing, add_from, run_over, run_empty, run_then}
use Rattle.sizes.specs.InPlace.{content_count, segment_count, segments_add, segment_run_adds, content_adds, contents_add, content_run_adds, fields_add, inner_adds, body_adds, node_adds}
use Rattle.sizes.specs.InPlace.{field_words, used_adds, place_adds, body_places}
use Rattle.sizes.specs.declared.Left.{Left}
use Rattle.sizes.specs.Words.{UsedWords}

-- ---- bodies

pub body_sum : (l : ℕ) (tp : List ℕ) (st : Store) (b : Body) → add_from (place_adds (inner_adds l tp st) tp st b) 6 0 ≡ body_adds l tp st b
unfolding body_adds
body_sum l tp st b = sym (body_places (inner_adds l tp st) tp st b)

module _ (t : Left) (inner : Body → Added) (tp : List ℕ) (st : Store) {r : Option Left} where
  pub place_read : (b : Body) (j : ℕ) (f : UsedWords) → f ≡ field_words b j → r ≡ less t (used_adds inner tp st f) → r ≡ less t (place_adds inner tp st b j)
  unfolding place_adds
  place_read b j f e q = q ∙ ap (λ (x : UsedWords). less t (used_adds inner tp st x)) e

  -- ---- contents

  module _ (x : Content) {y : Content} (e : x ≡ y) where
    pub content_plain : eqb x.tag 0 ≡ true → r ≡ less t one_call → r ≡ less t (content_adds inner tp st y)
    unfolding content_adds
    content_plain z q = rw (← e, z) q

    pub content_segments_lem : eqb x.tag 0 ≡ false → r ≡ less t (segment_run_adds inner tp st x.first x.second) → r ≡ less t (content_adds inner tp st y)
    unfolding content_adds
    content_segments_lem z q = rw (← e, z) q

-- ---- runs

no_contents : (inner : Body → Added) (tp : List ℕ) (st : Store) (at n : ℕ) → n ≡ 0 → contents_add inner tp st at n ≡ nothing
unfolding contents_add records_at add_all
no_contents inner tp st at n z = rw z refl

no_segments : (inner : Body → Added) (tp : List ℕ) (at n : ℕ) → n ≡ 0 → segments_add inner tp at n ≡ nothing
unfolding segments_add records_at add_all
no_segments inner tp at n z = rw z refl

module _ (t : Left) (inner : Body → Added) (tp : List ℕ) (st : Store) (start len n : ℕ) where
  module _ (e : n ≡ content_count st start len) where
    pub contents_over : None ≡ less t (new_contents n) → None ≡ less t (content_run_adds inner tp st start len)
    unfolding content_run_adds
    contents_over q = rw (← e) (run_over t (new_contents n) (contents_add inner tp st (content_place st start) n) q)

    pub contents_empty : {u : Left} → Some u ≡ less t (new_contents n) → n ≡ 0 → Some u ≡ less t (content_run_adds inner tp st start len)
    unfolding content_run_adds
    contents_empty q z = rw (← e) (run_empty t (new_contents n) (contents_add inner tp st (content_place st start) n) q (no_contents inner tp st (content_place st start) n z))

    pub contents_then : {u : Left} → Some u ≡ less t (new_contents n) → (at : ℕ) {r : Option Left} → at ≡ content_place st start → r ≡ less u (contents_add inner tp st at n) → r ≡ less t (content_run_adds inner tp st start len)
    unfolding content_run_adds
    contents_then q at p a = rw (← e, ← p) (run_then t (new_contents n) (contents_add inner tp st at n) q a)

  module _ (e : n ≡ segment_count st start len) where
    pub segments_over : None ≡ less t (new_segments n) → None ≡ less t (segment_run_adds inner tp st start len)
    unfolding segment_run_adds
    segments_over q = rw (← e) (run_over t (new_segments n) (segments_add inner tp (segment_place st start) n) q)

    pub segments_empty : {u : Left} → Some u ≡ less t (new_segments n) → n ≡ 0 → Some u ≡ less t (segment_run_adds inner tp st start len)
    unfolding segment_run_adds
    segments_empty q z = rw (← e) (run_empty t (new_segments n) (segments_add inner tp (segment_place st start) n) q (no_segments inner tp (segment_place st start) n z))

    pub segments_then : {u : Left} → Some u ≡ less t (new_segments n) → (at : ℕ) {r : Option Left} → at ≡ segment_place st start → r ≡ less u (segments_add inner tp at n) → r ≡ less t (segment_run_adds inner tp st start len)
    unfolding segment_run_adds
    segments_then q at p a = rw (← e, ← p) (run_then t (new_segments n) (segments_add inner tp at n) q a)

-- ---- the level falls

pub above_zero : (k : ℕ) → (k ≡ 0 → ⊥) → k ≡ suc (k - 1)
above_zero zero n = absurd (n refl)
above_zero (suc k) n = omega arith

module _ (t : Left) (tp : List ℕ) (st : Store) (at level : ℕ) where
  pub segment_last : level ≡ 0 → Some t ≡ less t (inner_adds level tp st (record_at segment_codec tp at).body)
  unfolding inner_adds
  segment_last z = rw z (sym (less_nothing t))

  pub segment_below : (level ≡ 0 → ⊥) → {r : Option Left} → r ≡ less t (body_adds (level - 1) tp st (body_at tp (at + 3)))
      → r ≡ less t (inner_adds level tp st (record_at segment_codec tp at).body)
  unfolding inner_adds body_adds
  segment_below z {r} q =
      let e : level ≡ suc (level - 1) = above_zero level z in
      q ∙ ap (λ (b : Body). less t (inner_adds (suc (level - 1)) tp st b)) (segment_body tp at)
      ∙ ap (λ (k : ℕ). less t (inner_adds k tp st (record_at segment_codec tp at).body)) (sym e)

-- ---- nodes

pub node_class : (tp : List ℕ) (at : ℕ) → byte_at tp (at + 1) ≡ (record_at node_codec tp at).class
unfolding record_at operands_at node_codec
node_class tp at = refl

module _ (t : Left) (tp : List ℕ) (st : Store) (at : ℕ) where
  -- classes 2 and 3 have no words
  pub node_bare : ltb (byte_at tp (at + 1)) 2 ≡ false → Some t ≡ less t (node_adds tp st (record_at node_codec tp at))
  unfolding node_adds node_fields fields_add add_all
  node_bare h = rw (← node_class tp at, h) (sym (less_nothing t))

  pub node_body_read : {r : Option Left} → ltb (byte_at tp (at + 1)) 2 ≡ true → r ≡ less t (body_adds 33 tp st (body_at tp (at + 15))) → r ≡ less t (node_adds tp st (record_at node_codec tp at))
  unfolding node_adds node_fields body_adds
  node_body_read h q = rw (← node_class tp at, h) (q ∙ ap (λ (b : Body). less t (body_adds 33 tp st b)) (node_body tp at))
