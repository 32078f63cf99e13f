-- Whether there is room for the strings. Assumes nothing.
use Rattle.std.specs.Prelude.{◌≡◌, refl, Bool, true, ◌&&◌, ℕ, ◌+◌, ◌<◌, ◌≤◌, take}
use Rattle.std.proofs.Math.Path.{sym, ap}
use Rattle.std.proofs.Common.{◌∙◌, arith, length-take-le}
use mathlib.Core.List.{List, [], ◌∷◌, ◌++◌, flatten}
use borrow.Author.Tests.{le-leb, leb-true}
use Rattle.std.proofs.Math.Dec.{leb}
use Rattle.std.proofs.Math.ListN.{length, length-append}
use Rattle.model.specs.Intern.{StrInterner}
use Rattle.model.specs.Limits.{max_new_strings}
use Rattle.facts.specs.Truth.{both}
use Rattle.facts.specs.Lists.{flatten_snoc}
use Rattle.table.specs.Layout.{starts_of, strings_up_to}
use Rattle.table.specs.Strings.{length_strings}
use Rattle.interner.specs.declared.StrInterner.{StrInterner as Interner}
use Rattle.interner.specs.State.{state_of, Good, has_room}

pub room_there : (count used n size : ℕ) → (leb (count + 1) max_new_strings && leb (used + n) size) ≡ true → (count < 3583) × (used + n ≤ size)
room_there count used n size e =
    let p = both (leb (count + 1) max_new_strings) (leb (used + n) size) e in
    (omega (arith, leb-true (count + 1) max_new_strings p.0), leb-true (used + n) size p.1)

module _ (work strs : List ℕ) (st : Interner) (g : Good work strs st) where
  abbrev strings : List (List ℕ)
  strings = strings_up_to st.count (starts_of st.count work) strs

  -- the strings' bytes are those from `base` up to `used`
  used_is : st.base + length (flatten strings) ≡ st.used
  used_is =
      omega (arith, length-take-le st.used strs g.fits, ap length g.laid, length-append (take st.base strs) (flatten strings), length-take-le st.base strs (omega (arith, g.fits, g.begins)), g.fits, g.begins)

  pub count_is : length strings ≡ st.count
  count_is = length_strings (starts_of st.count work) strs st.count

  pub room_same : true ≡ has_room (length strs) st.base (state_of work strs st)
  unfolding has_room
  room_same = sym (rw (le-leb (length strings) max_new_strings (omega (arith, count_is, g.words.few)), le-leb (st.base + length (flatten strings)) (length strs) (omega (arith, used_is, g.fits))) refl)

  pub room_more : (b : Bool) (s : List ℕ) → b ≡ (leb (st.count + 1) max_new_strings && leb (st.used + length s) (length strs)) → (t : StrInterner) → t.strings ≡ strings ++ (s ∷ []) → b ≡ has_room (length strs) st.base t
  unfolding has_room
  room_more b s hb t e =
      let n : st.count + 1 ≡ length t.strings = sym (ap length e ∙ length-append strings (s ∷ []) ∙ omega (arith, count_is)) in
      let m : st.used + length s ≡ st.base + length (flatten t.strings) = omega (arith, used_is, ap length (ap flatten e ∙ flatten_snoc strings s), length-append (flatten strings) s) in
      hb ∙ (λ i. leb (n i) max_new_strings && leb (m i) (length strs))
