-- The memo of the walk: what each entry says of the segment at its place is what the body of that segment adds on that level.
use Rattle.std.specs.Prelude.{◌≡◌, ℕ, suc, ◌+◌, ◌-◌, ◌≤◌, ◌<◌, true, cond, List, ltb, eqb, Option, Some}
use Rattle.std.proofs.Math.Path.{refl, ap}
use Rattle.std.proofs.Common.{sym, ◌∙◌, arith}
use borrow.Author.Tests.{lt-ltb, le-ltb, eq-eqb, ne_eqb, eqb-false}
use Rattle.model.specs.Bytes.{byte_at, zeros}
use Rattle.model.specs.Types.{Body}
use Rattle.model.specs.Tape.{record_at, segment_codec, fields_of, field_table}
use Rattle.facts.specs.Truth.{by_bool}
use Rattle.records.specs.Values.{body_at, segment_body}
use Rattle.store.specs.declared.Store.{Store}
use Rattle.memo.specs.Memo.{Entry, entry_in, is_of, put_in, none_in, every_put, is_place, is_level}
use Rattle.sizes.specs.Added.{Added, one_call, add_nothing, add_all, same_added}
use Rattle.sizes.specs.Capped.{less}
use Rattle.sizes.specs.InPlace.{inner_adds, fields_add, field_adds}
use Rattle.sizes.specs.Answers.{above_zero}
use Rattle.sizes.specs.Again.{taken, difference, exact_contents, exact_segments, exact_calls}
use Rattle.sizes.specs.declared.Left.{Left}
use Rattle.sizes.specs.declared.Sizes.{Sizes}

-- what an entry says that its segment adds
abbrev pub added_in : Entry → Added
added_in x = record { contents = x.contents; segments = x.segments; calls = x.calls }

-- an entry of level 0 is none
pub record Says (t : List ℕ) (st : Store) (x : Entry) : Type 0 where
  pub adds : (x.level ≡ 0 → ⊥) → added_in x ≡ inner_adds x.level t st (record_at segment_codec t x.place).body

pub record Known (t : List ℕ) (st : Store) (m : List ℕ) : Type 0 where
  pub says : (i : ℕ) → Says t st (entry_in m i)

-- what was taken off put as entry e; not where the place is no word, or the calls may have been cut
unfoldable pub note_in : List ℕ → ℕ → ℕ → ℕ → Left → Left → List ℕ
note_in m e at level before after =
    let a = difference before after in
    cond (ltb 4294967295 at) m (cond (eqb after.calls 0) m
    (put_in m e (record { place = at; level = level; contents = a.contents; segments = a.segments; calls = a.calls })))

pub known_none : (t : List ℕ) (st : Store) (n : ℕ) → Known t st (zeros n)
known_none t st n = record { says = λ i. record { adds = λ z. absurd (z (none_in n i)) } }

pub known_adds : {t : List ℕ} {st : Store} (m : List ℕ) → Known t st m → (e at level : ℕ) → is_of m e at level ≡ true → (level ≡ 0 → ⊥)
    → added_in (entry_in m e) ≡ inner_adds level t st (record_at segment_codec t at).body
known_adds {t} {st} m k e at level h z =
    let p = is_place m e at level h in
    let l = is_level m e at level h in
    (k.says e).adds (λ q. z (sym l ∙ q)) ∙ (λ i. inner_adds (l i) t st (record_at segment_codec t (p i)).body)

-- ---- a walk that ended is remembered

module _ {t : List ℕ} {st : Store} (m : List ℕ) (k : Known t st m) (e at level : ℕ) (before after : Left)
    (is : Some after ≡ less before (inner_adds level t st (record_at segment_codec t at).body)) where
  abbrev own : Added
  own = inner_adds level t st (record_at segment_codec t at).body

  between : (after.calls ≡ 0 → ⊥) → difference before after ≡ own
  between n =
      let z = exact_calls before after own is in
      let n' = above_zero after.calls n in
      same_added (exact_contents before after own is) (exact_segments before after own is) (omega (arith, z, n'))

  pub known_note : Known t st (note_in m e at level before after)
  unfolding note_in
  known_note =
      by_bool (ltb 4294967295 at) (λ q. rw q k)
      (λ q. rw q (by_bool (eqb after.calls 0) (λ w. rw w k)
      (λ w. rw w (record { says = every_put (Says t st) m e _ k.says (record { adds = λ z. between (eqb-false after.calls 0 w) }) }))))

-- ---- the code's answers

module _ (m : List ℕ) (e at level : ℕ) (before after : Left) where
  pub note_far : 4294967295 < at → m ≡ note_in m e at level before after
  unfolding note_in
  note_far h = rw (lt-ltb 4294967295 at h) refl

  module _ (near : at ≤ 4294967295) where
    pub note_cut : after.calls ≡ 0 → m ≡ note_in m e at level before after
    unfolding note_in
    note_cut z = rw (le-ltb 4294967295 at near, eq-eqb after.calls 0 z) refl

    pub note_put : (after.calls ≡ 0 → ⊥) → {l : List ℕ} (t : Sizes) → t ≡ taken before after
        → l ≡ put_in m e (record { place = at; level = level; contents = t.contents; segments = t.segments; calls = t.calls }) → l ≡ note_in m e at level before after
    unfolding note_in
    note_put z t f q =
        rw (le-ltb 4294967295 at near, ne_eqb after.calls 0 z)
        (q ∙ ap (λ (s : Sizes). put_in m e (record { place = at; level = level; contents = s.contents; segments = s.segments; calls = s.calls })) f)

-- ---- a text is one string

text_body : (tp : List ℕ) (st : Store) (l : ℕ) (b : Body) → b.kind ≡ 0 → inner_adds (suc l) tp st b ≡ one_call
unfolding inner_adds fields_add fields_of field_table add_all field_adds
text_body tp st l b e = rw e (add_nothing one_call)

body_kind : (tp : List ℕ) (at : ℕ) → (record_at segment_codec tp at).body.kind ≡ byte_at tp (at + 3)
unfolding body_at
body_kind tp at = ap (λ (b : Body). b.kind) (sym (segment_body tp at))

pub text_adds : (t : Left) (tp : List ℕ) (st : Store) (at level : ℕ) {r : Option Left} → (level ≡ 0 → ⊥) → byte_at tp (at + 3) ≡ 0 → r ≡ less t one_call
    → r ≡ less t (inner_adds level tp st (record_at segment_codec tp at).body)
text_adds t tp st at level z k q =
    let b = (record_at segment_codec tp at).body in
    q ∙ ap (less t) (sym (ap (λ (l : ℕ). inner_adds l tp st b) (above_zero level z) ∙ text_body tp st (level - 1) b (body_kind tp at ∙ k)))
