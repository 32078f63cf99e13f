-- An opened book as the model has it, and its strings: their bytes stand behind both texts, those of the last layer behind the others.
use Rattle.std.specs.Prelude.{◌≡◌, ℕ, ◌+◌, ◌-◌, ◌^◌, ◌≤◌, ◌<◌, length, drop}
use Rattle.std.proofs.Math.Path.{ap, ap₂}
use Rattle.std.proofs.Common.{sym, ◌∙◌, arith, length-drop, take-append-drop, drop-drop, take_all}
use mathlib.Core.List.{List, [], ◌++◌}
use Rattle.std.proofs.Math.ListN.{take}
use Rattle.model.specs.Types.{LexOutput}
use Rattle.model.specs.Lists.{sum}
use Rattle.model.specs.Bytes.{word_at}
use Rattle.model.specs.Tape.{places, layers_at, book_at}
use Rattle.places.specs.declared.Places.{Places}
use Rattle.places.specs.Found.{strings_in}
use Rattle.store.specs.declared.Store.{Store}
use Rattle.store.specs.Pools.{before_most, pool_start_or}
use Rattle.store.specs.Standing.{string_pool}
use Rattle.strings.specs.Starts.{lengths_in, start_in, Between, string_bytes_lem, of_tape}
use Rattle.strings.specs.Index.{indexed_none}
use Rattle.strings.specs.Shown.{Resolvable, old_strings, two_sides}
use Rattle.strings.specs.declared.lent.Strings.{Strings}
use Rattle.tape.specs.declared.book.Book.{Book}
use Rattle.tape.specs.Held.{Held, held_layers, held_texts, held_texts_inside}

-- the book
abbrev pub book_of : Book → LexOutput
book_of b = book_at b.tape.now (places b.tape.now) b.bytes.now

-- its strings
pub record StringsOf (b : Book) (ss : Strings) : Type 0 where
  pub tape : ss.tape.now ≡ b.tape.now
  pub store : ss.store.now ≡ b.store
  pub layers : layers_at ss.tape.now (places ss.tape.now).layers (ss.old.now ++ ss.new.now) ≡ (book_of b).layers

module _ {t d : List ℕ} {p : Places} {st : Store} (r : Held t d p st) where
  module _ {first cut : ℕ} (e : first ≡ p.text.0 + p.normalized.0) (f : cut ≡ first + start_in t (old_strings st)) where
    here : first ≡ word_at t 1 + word_at t 5
    here = e ∙ held_texts r

    bytes : length (drop first d) ≡ sum (lengths_in t)
    bytes = ap (λ (k : ℕ). length (drop k d)) here ∙ string_bytes_lem t d r.accepted.framing

    before : start_in t (old_strings st) ≤ sum (lengths_in t)
    before = before_most (lengths_in t) (old_strings st)

    pub held_cut : (first ≤ cut) × (cut ≤ length d)
    held_cut = let n = length-drop first d in (omega (arith, f), omega (arith, f, bytes, before, n, held_texts_inside r, e))

    old_side : take (cut - first) (drop first d) ≡ take (start_in t (old_strings st)) (drop first d)
    old_side = let n : cut - first ≡ start_in t (old_strings st) = omega (arith, f) in ap (λ (k : ℕ). take k (drop first d)) n

    new_side : take (length d - cut) (drop cut d) ≡ drop (start_in t (old_strings st)) (drop first d)
    new_side =
        let n = length-drop cut d in
        take_all (length d - cut) (drop cut d) (omega (arith, n)) ∙ ap (λ (k : ℕ). drop k d) f ∙ sym (drop-drop (start_in t (old_strings st)) first d)

    joined : take (start_in t (old_strings st)) (drop first d) ++ drop (start_in t (old_strings st)) (drop first d) ≡ drop first d
    joined = take-append-drop (start_in t (old_strings st)) (drop first d)

    -- the layers that have them
    pub held_layers_of : layers_at t (places t).layers (take (cut - first) (drop first d) ++ take (length d - cut) (drop cut d)) ≡ (book_at t (places t) d).layers
    unfolding book_at
    held_layers_of =
        ap (layers_at t (places t).layers) (ap₂ (λ (x y : List ℕ). x ++ y) old_side new_side ∙ joined) ∙ ap (λ (k : ℕ). layers_at t (places t).layers (drop k d)) here

    pub held_resolvable : length d < 2 ^ 63
        → Resolvable t st [] (take (cut - first) (drop first d)) (take (length d - cut) (drop cut d))
    held_resolvable h =
        let layers = held_layers r in
        let tape = of_tape t d r.accepted.framing st r.stored layers.1 in
        let sides = two_sides tape layers.0 (drop first d) bytes in
        let n = length-drop first d in
        rw (old_side, new_side) (record {
          sides = sides;
          indexed = indexed_none (lengths_in t);
          small = omega (arith, sides.whole, bytes, n, h);
        })

  -- how `start_from` finds the cut
  pub held_olds : {olds : ℕ} → olds ≡ old_strings st → Between st 0 olds
  held_olds e =
      let pool = string_pool t st r.stored in
      let n = pool_start_or pool (st.layers - 1) in
      let m = before_most (strings_in (places t).layers) (st.layers - 1) in
      record { order = omega arith; inside = omega (arith, e, n, m, pool.all) }

  pub held_place : (first : ℕ) {cut olds start : ℕ} → start ≡ start_in t olds → olds ≡ old_strings st → cut ≡ first + start → cut ≡ first + start_in t (old_strings st)
  held_place first e f g = g ∙ ap (λ (n : ℕ). first + n) (e ∙ ap (start_in t) f)
