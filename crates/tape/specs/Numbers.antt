-- The number of an answer by the first condition that holds, for each return of the code.
use Rattle.std.specs.Prelude.{Option, Some, None, ◌≡◌, ℕ, ◌<◌, Bool, true, false, cond, List, length, eqb}
use Rattle.std.proofs.Math.Path.{refl, sym, ap}
use Rattle.std.proofs.Common.{◌∙◌, arith}
use Rattle.std.proofs.Math.Option.{Option as ModelOption, none, some}
use Rattle.std.proofs.lemmas.Option.{none-some, same_Some}
use borrow.Author.Tests.{eq-eqb, ne_eqb}
use Rattle.model.specs.Types.{LexOutput}
use Rattle.model.specs.Refusal.{Checked.refused, ◌>>=◌, refuse◌if◌, number_of}
use Rattle.model.specs.Tape.{places, book_at, parse}
use Rattle.model.specs.WellFormed.{texts_are_utf8, within_limits, ids_ok, levels_ok, places_ok, normalized_length_ok, laid_out, well_formed, check_book, check_reading}
use Rattle.facts.specs.Truth.{by_bool}
use Rattle.laws.specs.Checks.{limit_facts}
use Rattle.laws.specs.RoundTrip.{parse_laid_out}
use Rattle.refusal.specs.declared.Refusal.{Refusal}
use Rattle.refusal.specs.declared.Refusal.TheVariants.{Layout}
use Rattle.refusal.specs.Refusal.{number}
use Rattle.places.specs.declared.Places.{Places}
use Rattle.places.specs.Found.{holds, places_of}
use Rattle.places.specs.Again.{Frame, frame, Parsed, places_parsed}
use Rattle.places.specs.Walked.{PlacesFit, places_fit}
use Rattle.texts.specs.Limits.{few_enough, few_within}
use Rattle.store.specs.declared.Store.{Store}
use Rattle.store.specs.Stored.{StoreFits, store_at, stored_layers, found_fits, OfTape, of_tape}
use Rattle.store.specs.Lengths.{BookLengths, book_lengths}
use Rattle.ids.specs.Whole.{ids_are}
use Rattle.levels.specs.Whole.{levels_in}
use Rattle.levels.specs.Number.{levels_are}
use Rattle.tape.specs.Placed.{places_number}

-- ---- numbers 2 to 7 of a book, in three stages

-- a stage's number, or that of the stages behind it
unfoldable pub or_else : ℕ → ℕ → ℕ
or_else n m = cond (eqb n 0) m n

-- Numbers 2 and 3.
unfoldable pub texts_number : LexOutput → ℕ
texts_number b = cond (texts_are_utf8 b) (cond (within_limits b) 0 3) 2

-- Numbers 4 and 5.
unfoldable pub pools_number : LexOutput → ℕ
pools_number b = cond (ids_ok b) (cond (levels_ok b) 0 5) 4

unfoldable pub book_number : LexOutput → ℕ
book_number b = or_else (texts_number b) (or_else (pools_number b) (places_number b))

-- they are the model's chain
pub number_well_formed : (b : LexOutput) → number_of (well_formed b) ≡ book_number b
unfolding well_formed refuse◌if◌ ◌>>=◌ number_of book_number texts_number pools_number places_number or_else
number_well_formed b =
    by_bool (texts_are_utf8 b)
    (λ e.
    by_bool (within_limits b)
    (λ f.
    by_bool (ids_ok b)
    (λ g.
    by_bool (levels_ok b)
    (λ h.
    by_bool (places_ok b)
    (λ k. by_bool (normalized_length_ok b) (λ m. rw (e, f, g, h, k, m) refl) (λ m. rw (e, f, g, h, k, m) refl))
    (λ k. rw (e, f, g, h, k) refl))
    (λ h. rw (e, f, g, h) refl))
    (λ g. rw (e, f, g) refl))
    (λ f. rw (e, f) refl))
    (λ e. rw e refl)

-- ---- the chains

-- number 1
pub record IsNoBook (t d : List ℕ) (refusal : Refusal) : Type 0 where
  pub is : refusal ≡ Layout
  pub unread : parse t d ≡ none

module _ (t d : List ℕ) where
  module _ {refusal : Refusal} (n : IsNoBook t d refusal) where
    pub book_none : check_book t d ≡ refused (number refusal)
    unfolding check_book laid_out ◌>>=◌
    book_none = rw (n.is, n.unread) refl

    pub reading_none : check_reading t d ≡ refused (number refusal)
    unfolding check_reading laid_out ◌>>=◌
    reading_none = rw (n.is, n.unread) refl

  module _ (b : LexOutput) (e : parse t d ≡ some b) where
    pub book_some : {r : ℕ} → r ≡ book_number b → r ≡ number_of (check_book t d)
    unfolding check_book laid_out ◌>>=◌
    book_some q = rw e (q ∙ sym (number_well_formed b))

    pub reading_layers : (length b.layers ≡ 1 → ⊥) → check_reading t d ≡ refused 1
    unfolding check_reading laid_out refuse◌if◌ ◌>>=◌
    reading_layers n = rw (e, ne_eqb (length b.layers) 1 n) refl

    pub reading_one : length b.layers ≡ 1 → check_reading t d ≡ check_book t d
    unfolding check_book check_reading laid_out refuse◌if◌ ◌>>=◌
    reading_one n = rw (e, eq-eqb (length b.layers) 1 n) refl

  reading_unread : parse t d ≡ none → check_reading t d ≡ check_book t d
  unfolding check_book check_reading laid_out ◌>>=◌
  reading_unread e = rw e refl

-- ---- the stages

module _ (b : LexOutput) where
  pub texts_two : texts_are_utf8 b ≡ false → 2 ≡ texts_number b
  unfolding texts_number
  texts_two e = rw e refl

  pub texts_three : texts_are_utf8 b ≡ true → within_limits b ≡ false → 3 ≡ texts_number b
  unfolding texts_number
  texts_three e f = rw (e, f) refl

  pub texts_pass : texts_are_utf8 b ≡ true → within_limits b ≡ true → 0 ≡ texts_number b
  unfolding texts_number
  texts_pass e f = rw (e, f) refl

  pub pools_four : ids_ok b ≡ false → 4 ≡ pools_number b
  unfolding pools_number
  pools_four e = rw e refl

  pub pools_five : ids_ok b ≡ true → levels_ok b ≡ false → 5 ≡ pools_number b
  unfolding pools_number
  pools_five e f = rw (e, f) refl

  pub pools_pass : ids_ok b ≡ true → levels_ok b ≡ true → 0 ≡ pools_number b
  unfolding pools_number
  pools_pass e f = rw (e, f) refl

  module _ {n : ℕ} (e : n ≡ texts_number b) where
    pub book_texts : 0 < n → n ≡ book_number b
    unfolding book_number or_else
    book_texts h = rw (← e, ne_eqb n 0 (λ z. omega (arith, h, z))) refl

    module _ (z : n ≡ 0) {m : ℕ} (g : m ≡ pools_number b) where
      pub book_pools : 0 < m → m ≡ book_number b
      unfolding book_number or_else
      book_pools h = rw (← e, eq-eqb n 0 z, ← g, ne_eqb m 0 (λ y. omega (arith, h, y))) refl

      pub book_places : m ≡ 0 → {r : ℕ} → r ≡ places_number b → r ≡ book_number b
      unfolding book_number or_else
      book_places h q = rw (← e, eq-eqb n 0 z, ← g, eq-eqb m 0 h) q

-- where number 4 has passed, the levels' answer is number 5
pub levels_pass : (t : List ℕ) (st : Store) {x y : Bool} → st ≡ store_at t → ((d : List ℕ) → x ≡ ids_ok (book_at t (places t) d)) → x ≡ true → y ≡ levels_in t st
    → (d : List ℕ) → levels_ok (book_at t (places t) d) ≡ y
levels_pass t st s i h e d = sym (e ∙ levels_are t st s (ids_are t st s d ∙ sym (i d) ∙ h) d)

-- ---- a tape whose frame holds

not_none : (b : LexOutput) → none ≡ some b → ⊥
not_none b e = let z : ◌≡◌ {A = ℕ} 0 1 = cc in omega arith

pub parsed_holds : (t d : List ℕ) (b : LexOutput) → parse t d ≡ some b → holds t d ≡ true
unfolding holds parse
parsed_holds t d b e = by_bool (holds t d) (λ h. h) (λ h. absurd (not_none b (sym (let q : parse t d ≡ none = rw h refl in q) ∙ e)))

-- the store of a tape that number 3 lets have one
unfoldable pub store_if : List ℕ → Places → Option Store
store_if t p = cond (few_enough p) (Some (store_at t)) None

module _ (t d : List ℕ) {p : Places} (e : places_of t d ≡ Some p) where
  parsed : Parsed t d p
  parsed = places_parsed t d e

  pub framed_frame : Frame t d
  framed_frame = frame t d parsed.holding

  pub framed_places : PlacesFit t p
  framed_places = places_fit t d p framed_frame parsed.is

  lengths : BookLengths (book_at t (places t) d) p
  lengths = book_lengths t d p framed_frame parsed.is

  -- number 3
  pub framed_limits : few_enough p ≡ within_limits (book_at t (places t) d)
  framed_limits = few_within t d p parsed.holding parsed.is

  -- where it has passed a store may be made, and is that of the tape
  pub framed_fits : few_enough p ≡ true → StoreFits t p.layers
  framed_fits h =
      let f = limit_facts (book_at t (places t) d) (sym framed_limits ∙ h) in
      found_fits t p parsed.is (omega (arith, f.layers, lengths.layers)) (omega (arith, f.strings, lengths.strings)) (omega (arith, f.contents, lengths.contents))
      (omega (arith, f.segments, lengths.segments))

  module _ {o : Option Store} (g : o ≡ store_if t p) where
    pub framed_store : (st : Store) → o ≡ Some st → OfTape t st × (within_limits (book_at t (places t) d) ≡ true)
    unfolding store_if
    framed_store st q =
        by_bool (few_enough p)
        (λ h.
        let s = sym (same_Some (store_at t) st (let x : Some (store_at t) ≡ Some st = rw h at (sym g ∙ q) in x)) in
        let f = framed_fits h in
        let n = stored_layers t s in
        (of_tape t d framed_frame st s (omega (arith, n, f.count, f.few)), sym framed_limits ∙ h))
        (λ h. let x : None ≡ Some st = rw h at (sym g ∙ q) in absurd (none-some st x))

    pub framed_none : ((st : Store) → o ≡ Some st → ⊥) → within_limits (book_at t (places t) d) ≡ false
    unfolding store_if
    framed_none n = by_bool (few_enough p) (λ h. absurd (n (store_at t) (g ∙ rw h refl))) (λ h. sym framed_limits ∙ h)

  -- a reading has exactly one layer
  layers_of : (b : LexOutput) → parse t d ≡ some b → length b.layers ≡ p.layers
  layers_of b q = ap (λ (x : LexOutput). length x.layers) (sym (parse_laid_out t d b q).1) ∙ lengths.layers

  pub framed_one : p.layers ≡ 1 → (length (book_at t (places t) d).layers ≡ 1) × (check_reading t d ≡ check_book t d)
  framed_one n = (lengths.layers ∙ n, go (parse t d) refl)
    where
      go : (x : ModelOption LexOutput) → parse t d ≡ x → check_reading t d ≡ check_book t d
      go none q = reading_unread t d q
      go (some b) q = reading_one t d b q (layers_of b q ∙ n)

  pub framed_other : (p.layers ≡ 1 → ⊥) → check_reading t d ≡ refused 1
  unfolding check_reading laid_out ◌>>=◌
  framed_other n = go (parse t d) refl
    where
      go : (x : ModelOption LexOutput) → parse t d ≡ x → check_reading t d ≡ refused 1
      go none q = rw q refl
      go (some b) q = reading_layers t d b q (λ o. n (sym (layers_of b q) ∙ o))
