-- What is known of a tape and its bytes where `check_book` or `check_reading` answers 0, and what the code that reads them may
-- ask: the places found, a store, nodes in order.
use Rattle.std.specs.Prelude.{Some, ◌≡◌, refl, ℕ, true, List, length}
use Rattle.std.proofs.Common.{sym, ap, ◌∙◌, subst, arith}
use Rattle.std.proofs.Math.Option.{Option, some}
use Rattle.std.proofs.lemmas.Option.{same_Some}
use Rattle.model.specs.Types.{LexOutput}
use Rattle.model.specs.Refusal.{Checked, Checked.refused, Checked.accepted, number_of}
use Rattle.model.specs.Tape.{places, records_at, node_codec, book_at, parse}
use Rattle.model.specs.WellFormed.{texts_are_utf8, within_limits, ids_ok, levels_ok, places_ok, normalized_length_ok, check_book, check_reading}
use Rattle.laws.specs.Checks.{WellFormed, checked_book, checked_again, place_facts}
use Rattle.laws.specs.Numbers.{UpTo, book_up_to}
use Rattle.laws.specs.RoundTrip.{parse_laid_out}
use Rattle.refusal.specs.Refusal.{checked_map, was_accepted}
use Rattle.places.specs.declared.Places.{Places}
use Rattle.places.specs.Found.{holds, found, places_of}
use Rattle.places.specs.Again.{Frame, frame}
use Rattle.store.specs.declared.Store.{Store}
use Rattle.store.specs.Stored.{StoreFits, store_at, stored_layers, OfTape, of_tape}
use Rattle.bounds.specs.Search.{InOrder, book_in_order}
use Rattle.places.specs.Walked.{PlacesFit, places_fit}
use Rattle.tape.specs.Numbers.{parsed_holds, framed_fits, framed_limits}

-- ---- the number 0 is no refusal

pub value_of : {A : Type 0} (x : Checked A) → UpTo 7 x → number_of x ≡ 0 → (a : A) × (x ≡ accepted a)
unfolding number_of
value_of (refused n) h z = absurd (omega (arith, h.0, z))
value_of (accepted a) h z = (a, refl)

pub refusal_of : {A : Type 0} (x : Checked A) {n : ℕ} → n ≡ number_of x → (n ≡ 0 → ⊥) → x ≡ refused n
unfolding number_of
refusal_of (refused m) {n} e h = ap {B = Checked _} refused (sym e)
refusal_of (accepted a) e h = absurd (h e)

-- ---- a book that passed 1 to 7

pub record Accepted (t d : List ℕ) : Type 0 where
  pub book : check_book t d ≡ accepted (book_at t (places t) d)
  pub parsed : parse t d ≡ some (book_at t (places t) d)
  pub holding : holds t d ≡ true
  pub framing : Frame t d
  pub texts : texts_are_utf8 (book_at t (places t) d) ≡ true
  pub limits : within_limits (book_at t (places t) d) ≡ true
  pub ids : ids_ok (book_at t (places t) d) ≡ true
  pub levels : levels_ok (book_at t (places t) d) ≡ true
  pub places_ok : places_ok (book_at t (places t) d) ≡ true
  pub normalized_length_ok : normalized_length_ok (book_at t (places t) d) ≡ true

module _ (t d : List ℕ) where
  -- what parses and is well formed
  whole : (b : LexOutput) → parse t d ≡ some b → WellFormed b → Accepted t d
  whole b e w =
      let q = (parse_laid_out t d b e).1 in
      let f = subst WellFormed (sym q) w in
      let p = e ∙ ap {B = Option LexOutput} some (sym q) in
      let h = parsed_holds t d b e in
      record {
        book = checked_again t d (book_at t (places t) d) p f;
        parsed = p;
        holding = h;
        framing = frame t d h;
        texts = f.utf8;
        limits = f.limits;
        ids = f.ids;
        levels = f.levels;
        places_ok = f.places;
        normalized_length_ok = f.sizes;
      }

  -- `check_book` has answered 0
  pub accepted_book : number_of (check_book t d) ≡ 0 → Accepted t d
  accepted_book z =
      let v = value_of (check_book t d) (book_up_to 7 (omega arith) t d) z in
      let c = checked_book t d v.0 v.1 in
      whole v.0 c.0 c.1

-- a reading that passed is a book that passes, of one layer
pub record AcceptedReading (t d : List ℕ) : Type 0 where
  pub reading : check_reading t d ≡ accepted (book_at t (places t) d)
  pub one : length (book_at t (places t) d).layers ≡ 1
  pub whole : Accepted t d

-- ---- where `check_book` is passed

pub passed_whole : {t d : List ℕ} → accepted (tt {0}) ≡ checked_map (λ _. tt {0}) (check_book t d) → Accepted t d
passed_whole {t} {d} e =
    let v = was_accepted (λ (b : LexOutput). tt {0}) (check_book t d) e in let c = checked_book t d v.0 v.1 in whole t d v.0 c.0 c.1

-- ---- what the code may ask then

-- `places_of` has found them
pub accepted_found : {t d : List ℕ} → Accepted t d → places_of t d ≡ Some (found t)
unfolding places_of
accepted_found a = rw a.holding refl

pub accepted_place : {t d : List ℕ} → Accepted t d → {p : Places} → Some p ≡ places_of t d → p ≡ found t
accepted_place {t} a {p} e = same_Some p (found t) (e ∙ accepted_found a)

module _ {t d : List ℕ} (a : Accepted t d) {p : Places} (e : p ≡ found t) where
  pub accepted_places : PlacesFit t p
  accepted_places = places_fit t d p a.framing e

  pub accepted_store : StoreFits t p.layers
  accepted_store =
      let q : places_of t d ≡ Some p = accepted_found a ∙ ap (λ (x : Places). Some x) (sym e) in framed_fits t d q (framed_limits t d q ∙ a.limits)

  pub accepted_tape : {st : Store} → st ≡ store_at t → OfTape t st
  accepted_tape {st} s = let n = stored_layers t s in of_tape t d a.framing st s (omega (arith, n, accepted_store.count, accepted_store.few))

  pub accepted_order : InOrder (records_at node_codec t p.nodes.at p.nodes.count)
  unfolding book_at found
  accepted_order = rw e (book_in_order (book_at t (places t) d) (place_facts (book_at t (places t) d) a.places_ok))
