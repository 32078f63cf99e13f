-- Where the string of an id stands in the byte buffer, and that what stands there is the model's answer.
use Rattle.std.specs.Prelude.{◌≡◌, ℕ, suc, ◌+◌, ◌-◌, ◌≤◌, ◌<◌, Bool, true, false, cond, drop, ltb, Option, Some, None}
use Rattle.std.proofs.Math.Path.{refl, sym, ap, ap₂}
use Rattle.std.proofs.Common.{◌∙◌, drop-drop}
use native.Mathlib.Omega.{arith}
use Rattle.std.proofs.Math.Option as maybe
use mathlib.Core.List.{List, [], map}
use Rattle.std.proofs.Math.ListN.{length, get_or, take}
use Rattle.std.proofs.lemmas.List.{length-map}
use borrow.Author.Tests.{ltb-true, ltb-false}
use Rattle.model.specs.Lists.{sum}
use Rattle.model.specs.Bytes.{part, word_at}
use Rattle.model.specs.Offset.{Span}
use Rattle.model.specs.Types.{LexOutput}
use Rattle.model.specs.Refusal.{Checked, Checked.accepted}
use Rattle.model.specs.Tape.{places, pieces, book_at}
use Rattle.model.specs.Store.{store_of, string_span}
use Rattle.model.specs.Lookup.{ask_book, lookup_str, lookup_str_span}
use Rattle.facts.specs.Truth.{by_bool}
use Rattle.facts.specs.Lists.{item_in, item_out}
use Rattle.laws.specs.RoundTrip.{pieces_lengths}
use Rattle.refusal.specs.Refusal.{checked_map}
use Rattle.tape.specs.Held.{Held, held_texts}
use Rattle.places.specs.declared.Places.{Places}
use Rattle.places.specs.Found.{found}
use Rattle.places.specs.Again.{Frame}
use Rattle.store.specs.declared.Store.{Store}
use Rattle.store.specs.Stored.{store_at}
use Rattle.store.specs.Pools.{before_next}
use Rattle.store.specs.Standing.{string_pool, length_pools, strings_pieces, length_at, string_at_lem}
use Rattle.store.specs.Lengths.{book_lengths}
use Rattle.strings.specs.Starts.{lengths_in, start_in, Readable, string_bytes_lem, start_most}
use Rattle.lookup.specs.declared.StrAt.{StrAt}
use Rattle.lookup.specs.Asked.{ask_accepted, ask_shown}

-- ---- answers

-- start and end in the byte buffer, or none
unfoldable pub str_if : maybe.Option Span → Option StrAt
str_if maybe.none = None
str_if (maybe.some s) = Some (record { start = s.start; end = s.end })

-- the bytes that an answer names, from start up to end
unfoldable pub bytes_named : List ℕ → Option StrAt → maybe.Option (List ℕ)
bytes_named d (Some s) = maybe.some (part d s.start (s.end - s.start))
bytes_named d None = maybe.none

-- What an answer shows: a number 1 to 7, or those bytes.
abbrev pub str_shown : List ℕ → Checked (Option StrAt) → Checked (maybe.Option (List ℕ))
str_shown d = checked_map (bytes_named d)

-- the span of an id in a pool of `count` strings with these lengths, whose bytes begin at `from`
unfoldable pub span_from : ℕ → ℕ → List ℕ → ℕ → maybe.Option Span
span_from count from lengths id =
    let at = string_span lengths id in
    cond (ltb id count) (maybe.some (record { start = from + at.start; end = from + at.end })) maybe.none

-- ---- the strings of a tape's book

module _ (t d : List ℕ) (f : Frame t d) where
  -- the bytes of the strings
  abbrev behind : List ℕ
  behind = drop (word_at t 1 + word_at t 5) d

  abbrev strings : List (List ℕ)
  strings = (store_of (book_at t (places t) d).layers).strings

  strings_cut : strings ≡ pieces (lengths_in t) behind
  unfolding book_at
  strings_cut = strings_pieces t (places t).layers behind

  strings_lengths : map length strings ≡ lengths_in t
  strings_lengths = ap (map length) strings_cut ∙ pieces_lengths (lengths_in t) behind (omega (arith, string_bytes_lem t d f))

  strings_many : length strings ≡ length (lengths_in t)
  strings_many = sym (length-map strings length) ∙ ap length strings_lengths

  texts_length : length (book_at t (places t) d).sanitized + length (book_at t (places t) d).normalized ≡ word_at t 1 + word_at t 5
  unfolding found
  texts_length = let l = book_lengths t d (found t) f refl in omega (arith, l.text, l.normalized)

  -- the model's span
  span_is : (id : ℕ) → lookup_str_span (book_at t (places t) d) id ≡ span_from (length (lengths_in t)) (word_at t 1 + word_at t 5) (lengths_in t) id
  unfolding lookup_str_span span_from
  span_is id =
      ap (λ (n : ℕ). span_from n (length (book_at t (places t) d).sanitized + length (book_at t (places t) d).normalized) (map length strings) id) strings_many
      ∙ ap₂ (λ (n : ℕ) (ns : List ℕ). span_from (length (lengths_in t)) n ns id) texts_length strings_lengths

  -- what stands there
  string_is : (id : ℕ) → id < length (lengths_in t) → get_or strings id [] ≡ part d (word_at t 1 + word_at t 5 + start_in t id) (get_or (lengths_in t) id 0)
  unfolding book_at
  string_is id h =
      let st = store_at t in
      let k : id < st.totals.strings = let n = (string_pool t st refl).all ∙ sym (length_pools t (places t).layers) in omega (arith, n, h) in
      string_at_lem t st refl behind id k
      ∙ ap₂ (λ (n : ℕ) (l : List ℕ). take n l) (sym (length_at t st refl id k)) (drop-drop (start_in t id) (word_at t 1 + word_at t 5) d)

  -- the model's answer, inside the pool and past it
  pub lookup_in : (id : ℕ) → id < length (lengths_in t)
      → lookup_str (book_at t (places t) d) id ≡ maybe.some (part d (word_at t 1 + word_at t 5 + start_in t id) (get_or (lengths_in t) id 0))
  unfolding lookup_str
  lookup_in id h = item_in strings id [] (omega (arith, h, strings_many)) ∙ ap {B = maybe.Option (List ℕ)} maybe.some (string_is id h)

  pub lookup_out : (id : ℕ) → length (lengths_in t) ≤ id → lookup_str (book_at t (places t) d) id ≡ maybe.none
  unfolding lookup_str
  lookup_out id h = item_out strings id (omega (arith, h, strings_many))

  shown_here : (id : ℕ) → bytes_named d (str_if (lookup_str_span (book_at t (places t) d) id)) ≡ lookup_str (book_at t (places t) d) id
  unfolding bytes_named str_if span_from string_span lookup_str
  shown_here id =
      let from = word_at t 1 + word_at t 5 in
      let n = get_or (lengths_in t) id 0 in
      by_bool (ltb id (length (lengths_in t)))
      (λ e.
      let h = ltb-true id (length (lengths_in t)) e in
      let q : from + (start_in t id + n) - (from + start_in t id) ≡ n = omega arith in
      rw (span_is id, e, q, item_in strings id [] (omega (arith, h, strings_many)), string_is id h) refl)
      (λ e.
      let h = ltb-false id (length (lengths_in t)) e in
      rw (span_is id, e, item_out strings id (omega (arith, h, strings_many))) refl)

-- An answer of `lookup_str` shows the string asked for.
pub str_both : (t d : List ℕ) (id : ℕ) {r : Checked (Option StrAt)} → r ≡ ask_book t d (λ b. str_if (lookup_str_span b id))
    → (r ≡ ask_book t d (λ b. str_if (lookup_str_span b id))) × (str_shown d r ≡ ask_book t d (λ b. lookup_str b id))
str_both t d id e = (
  e,
  ap (str_shown d) e
      ∙ ask_shown t d (bytes_named d) (λ (b : LexOutput). str_if (lookup_str_span b id)) (λ (b : LexOutput). lookup_str b id) (λ a. shown_here t d a.framing id),
)

-- ---- the returns of `str_in`

abbrev str_from : ℕ → ℕ → Option StrAt
str_from start end = Some (record { start = start; end = end })

module _ (count from : ℕ) (lengths : List ℕ) (id : ℕ) where
  pub str_none : {x : Bool} → x ≡ ltb id count → x ≡ false → None ≡ str_if (span_from count from lengths id)
  unfolding str_if span_from
  str_none e f = rw (← e, f) refl

  pub str_there : {x : Bool} → x ≡ ltb id count → x ≡ true → {start len : ℕ} → start ≡ sum (take id lengths) → len ≡ get_or lengths id 0
      → Some (record { start = from + start; end = from + start + len }) ≡ str_if (span_from count from lengths id)
  unfolding str_if span_from string_span
  str_there e f {start} {len} s n =
      let q : from + start + len ≡ from + (sum (take id lengths) + get_or lengths id 0) = omega (arith, s, n) in
      rw (← e, f) (ap₂ str_from (ap (λ (x : ℕ). from + x) s) q)

-- no string ends behind the bytes
pub str_inside : {t : List ℕ} {st : Store} {room : ℕ} → Readable t st room → (id : ℕ) {start len : ℕ} → start ≡ start_in t id → len ≡ get_or (lengths_in t) id 0
    → start + len ≤ room
str_inside {t} f id s n = let m = start_most f (suc id) in let k = before_next (lengths_in t) id in omega (arith, m, k, s, n)

-- ---- the returns of `lookup_str`

module _ {t d : List ℕ} {p : Places} {st : Store} (a : Held t d p st) where
  pub str_said : (id : ℕ) {from : ℕ} → from ≡ p.text.0 + p.normalized.0 → {r : Option StrAt} → r ≡ str_if (span_from st.totals.strings from (lengths_in t) id)
      → accepted r ≡ ask_book t d (λ b. str_if (lookup_str_span b id))
  str_said id {from} g {r} e =
      let f = a.accepted.framing in
      let n : st.totals.strings ≡ length (lengths_in t) = (string_pool t st a.stored).all ∙ sym (length_pools t (places t).layers) in
      let q : from ≡ word_at t 1 + word_at t 5 = g ∙ held_texts a in
      ap {B = Checked (Option StrAt)} accepted (e ∙ ap₂ (λ (x y : ℕ). str_if (span_from x y (lengths_in t) id)) n q ∙ ap str_if (sym (span_is t d f id)))
      ∙ ask_accepted a.accepted (λ (b : LexOutput). str_if (lookup_str_span b id))
