-- Where the records of a range stand in the tape, and that what stands there is the model's answer: contents and segments.
use Rattle.std.specs.Prelude.{◌≡◌, ℕ, ◌+◌, Bool, true, false, List, drop, Option, Some, None}
use Rattle.std.proofs.Math.Path.{refl, ap}
use Rattle.std.proofs.Common.{◌∙◌}
use Rattle.std.proofs.Math.Bool.{cond}
use Rattle.std.proofs.Math.Option as maybe
use Rattle.model.specs.Types.{LexOutput}
use Rattle.model.specs.Refusal.{Checked, Checked.accepted}
use Rattle.model.specs.Bytes.{word_at}
use Rattle.model.specs.Tape.{Codec, records_at, places, book_at, content_codec, segment_codec}
use Rattle.model.specs.Store.{store_of, resolve_content_range, resolve_seg_range}
use Rattle.model.specs.Lookup.{ask_book, lookup_contents, lookup_segments, contents_ok, segments_ok}
use Rattle.facts.specs.Truth.{by_bool}
use Rattle.refusal.specs.Refusal.{checked_map}
use Rattle.places.specs.declared.Places.{Places}
use Rattle.store.specs.declared.Store.{Store}
use Rattle.store.specs.Stored.{store_at}
use Rattle.store.specs.Pools.{range_in}
use Rattle.store.specs.Standing.{content_place, segment_place, content_range_ok, segment_range_ok, content_range_lem, segment_range}
use Rattle.tape.specs.Held.{Held}
use Rattle.lookup.specs.declared.RangeAt.{RangeAt}
use Rattle.lookup.specs.Asked.{ask_accepted, ask_shown}

-- ---- answers

-- where the first record stands and how many they are, if the range is one under section 3
unfoldable pub range_if : Bool → ℕ → ℕ → Option RangeAt
range_if ok place len = cond ok (Some (record { place = place; count = len })) None

-- the records of the tape that an answer names
unfoldable pub records_named : {A : Type 0} → Codec A → List ℕ → Option RangeAt → maybe.Option (List A)
records_named c t (Some r) = maybe.some (records_at c t r.place r.count)
records_named c t None = maybe.none

-- What an answer shows: a number 1 to 7, or those records.
abbrev pub range_shown : {A : Type 0} → Codec A → List ℕ → Checked (Option RangeAt) → Checked (maybe.Option (List A))
range_shown c t = checked_map (records_named c t)

-- ---- what is shown is what is asked

module _ (t d : List ℕ) {A : Type 0} (c : Codec A) (ok : LexOutput → Bool) (items : LexOutput → List A) (place len : ℕ) where
  shown_accepted : (b : LexOutput) → (ok b ≡ true → items b ≡ records_at c t place len)
      → records_named c t (range_if (ok b) place len) ≡ cond (ok b) (maybe.some (items b)) maybe.none
  unfolding records_named range_if
  shown_accepted b h = by_bool (ok b) (λ e. rw (e, h e) refl) (λ e. rw e refl)

  -- where the items stand, an answer that is so fixed shows them
  range_both : (ok (book_at t (places t) d) ≡ true → items (book_at t (places t) d) ≡ records_at c t place len)
      → {r : Checked (Option RangeAt)} → r ≡ ask_book t d (λ b. range_if (ok b) place len)
      → (r ≡ ask_book t d (λ b. range_if (ok b) place len)) × (range_shown c t r ≡ ask_book t d (λ b. cond (ok b) (maybe.some (items b)) maybe.none))
  range_both h e = (
    e,
    ap (range_shown c t) e
        ∙ ask_shown t d (records_named c t) (λ (b : LexOutput). range_if (ok b) place len) (λ (b : LexOutput). cond (ok b) (maybe.some (items b)) maybe.none)
        (λ a. shown_accepted (book_at t (places t) d) h),
  )

-- ---- contents and segments

module _ (t d : List ℕ) (start len : ℕ) where
  -- where the strings of the layers begin
  abbrev behind : List ℕ
  behind = drop (word_at t 1 + word_at t 5) d

  contents_test : (st : Store) → st ≡ store_at t → range_in st.contents st.layers st.totals.contents start len ≡ contents_ok start len (book_at t (places t) d)
  unfolding book_at
  contents_test st e = content_range_ok t st e behind start len

  segments_test : (st : Store) → st ≡ store_at t → range_in st.segments st.layers st.totals.segments start len ≡ segments_ok start len (book_at t (places t) d)
  unfolding book_at
  segments_test st e = segment_range_ok t st e behind start len

  contents_stand : contents_ok start len (book_at t (places t) d) ≡ true
      → resolve_content_range (store_of (book_at t (places t) d).layers) start len ≡ records_at content_codec t (content_place (store_at t) start) len
  unfolding book_at
  contents_stand h = content_range_lem t (store_at t) refl behind start len (contents_test (store_at t) refl ∙ h)

  segments_stand : segments_ok start len (book_at t (places t) d) ≡ true
      → resolve_seg_range (store_of (book_at t (places t) d).layers) start len ≡ records_at segment_codec t (segment_place (store_at t) start) len
  unfolding book_at
  segments_stand h = segment_range t (store_at t) refl behind start len (segments_test (store_at t) refl ∙ h)

  -- An answer of `lookup_contents` shows the contents asked for.
  pub contents_both : {r : Checked (Option RangeAt)} → r ≡ ask_book t d (λ b. range_if (contents_ok start len b) (content_place (store_at t) start) len)
      → (r ≡ ask_book t d (λ b. range_if (contents_ok start len b) (content_place (store_at t) start) len))
      × (range_shown content_codec t r ≡ ask_book t d (λ b. lookup_contents b start len))
  unfolding lookup_contents
  contents_both =
      range_both t d content_codec (contents_ok start len) (λ (b : LexOutput). resolve_content_range (store_of b.layers) start len) (content_place (store_at t) start) len
      contents_stand

  pub segments_both : {r : Checked (Option RangeAt)} → r ≡ ask_book t d (λ b. range_if (segments_ok start len b) (segment_place (store_at t) start) len)
      → (r ≡ ask_book t d (λ b. range_if (segments_ok start len b) (segment_place (store_at t) start) len))
      × (range_shown segment_codec t r ≡ ask_book t d (λ b. lookup_segments b start len))
  unfolding lookup_segments
  segments_both =
      range_both t d segment_codec (segments_ok start len) (λ (b : LexOutput). resolve_seg_range (store_of b.layers) start len) (segment_place (store_at t) start) len
      segments_stand

-- ---- the returns of the code

-- `contents_in` and `segments_in`
module _ {x ok : Bool} (e : x ≡ ok) (place len : ℕ) where
  pub range_none : x ≡ false → None ≡ range_if ok place len
  unfolding range_if
  range_none f = rw (← e, f) refl

  pub range_there : x ≡ true → {p : ℕ} → p ≡ place → Some (record { place = p; count = len }) ≡ range_if ok place len
  unfolding range_if
  range_there f q = rw (← e, f, q) refl

-- the entries
module _ {t d : List ℕ} {p : Places} {st : Store} (a : Held t d p st) where
  said : (ok : LexOutput → Bool) (place len : ℕ) → {r : Option RangeAt} → r ≡ range_if (ok (book_at t (places t) d)) place len
      → accepted r ≡ ask_book t d (λ b. range_if (ok b) place len)
  said ok place len e = ap {B = Checked (Option RangeAt)} accepted e ∙ ask_accepted a.accepted (λ (b : LexOutput). range_if (ok b) place len)

  module _ (start len : ℕ) {r : Option RangeAt} where
    pub contents_said : r ≡ range_if (range_in st.contents st.layers st.totals.contents start len) (content_place st start) len
        → accepted r ≡ ask_book t d (λ b. range_if (contents_ok start len b) (content_place (store_at t) start) len)
    contents_said e =
        said (contents_ok start len) (content_place (store_at t) start) len
        (e ∙ ap (λ (x : Bool). range_if x (content_place st start) len) (contents_test t d start len st a.stored)
        ∙ ap (λ (x : Store). range_if (contents_ok start len (book_at t (places t) d)) (content_place x start) len) a.stored)

    pub segments_said : r ≡ range_if (range_in st.segments st.layers st.totals.segments start len) (segment_place st start) len
        → accepted r ≡ ask_book t d (λ b. range_if (segments_ok start len b) (segment_place (store_at t) start) len)
    segments_said e =
        said (segments_ok start len) (segment_place (store_at t) start) len
        (e ∙ ap (λ (x : Bool). range_if x (segment_place st start) len) (segments_test t d start len st a.stored)
        ∙ ap (λ (x : Store). range_if (segments_ok start len (book_at t (places t) d)) (segment_place x start) len) a.stored)
