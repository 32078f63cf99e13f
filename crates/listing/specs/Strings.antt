-- The string of an id, as the code that prints a book finds it.
use Rattle.std.specs.Prelude.{◌≡◌, refl, ℕ, ◌+◌, ◌-◌, ◌≤◌, ◌<◌, List, [], ◌++◌, length, get_or, drop}
use Rattle.std.proofs.Common.{sym, ap, ◌∙◌, arith, append_assoc, length-take, length-drop}
use Rattle.std.proofs.Math.Option.{Option, none, some}
use Rattle.model.specs.Lists.{ascii}
use Rattle.model.specs.Bytes.{word_at, part}
use Rattle.model.specs.Tape.{places, book_at}
use Rattle.model.specs.Lookup.{lookup_str}
use Rattle.places.specs.declared.Places.{Places}
use Rattle.store.specs.declared.Store.{Store}
use Rattle.store.specs.Standing.{string_pool, length_pools}
use Rattle.strings.specs.Starts.{lengths_in, start_in}
use Rattle.tape.specs.Held.{Held}
use Rattle.lookup.specs.Strings.{lookup_in, lookup_out}
use Rattle.lines.specs.Text.{numbered}
use Rattle.lines.specs.Quoted.{quoted}
use Rattle.listing.specs.Listing.{string_bytes}

part_short : (d : List ℕ) (p n : ℕ) → length (part d p n) ≤ length d
part_short d p n = let a = length-take n (drop p d) in let b = length-drop p d in omega (arith, a, b)

pub text_short : (d : List ℕ) (p n : ℕ) {x : List ℕ} → length d ≤ 65536 → x ≡ part d p n → length x ≤ 65536
text_short d p n h e = let a = part_short d p n in let b = ap length e in omega (arith, a, b, h)

module _ {t d : List ℕ} {p : Places} {st : Store} (h : Held t d p st) where
  count : st.totals.strings ≡ length (lengths_in t)
  count = (string_pool t st h.stored).all ∙ sym (length_pools t (places t).layers)

  pub string_there : length d ≤ 65536 → (id : ℕ) → id < st.totals.strings → {a b start n : ℕ} → a ≡ word_at t 1 → b ≡ word_at t 5 → start ≡ start_in t id
      → n ≡ get_or (lengths_in t) id 0 → {x : List ℕ} → x ≡ part d (a + b + start) (a + b + start + n - (a + b + start))
      → (length x ≤ 65536) × (lookup_str (book_at t (places t) d) id ≡ some x)
  string_there short id m {a} {b} {start} {n} p q r s {x} e =
      let z : a + b + start + n - (a + b + start) ≡ n = omega arith in (
        text_short d (a + b + start) (a + b + start + n - (a + b + start)) short e,
        lookup_in t d h.accepted.framing id (omega (arith, m, count)) ∙ ap {B = Option (List ℕ)} some (sym (e ∙ rw (z, p, q, r, s) refl)),
      )

  pub string_none : (id : ℕ) → st.totals.strings ≤ id → lookup_str (book_at t (places t) d) id ≡ none
  string_none id m = lookup_out t d h.accepted.framing id (omega (arith, m, count))

-- ---- the returns of `put_string`

pub none_bytes : (id : ℕ) {o : Option (List ℕ)} → o ≡ none → ascii "none" ≡ string_bytes id o
unfolding string_bytes
none_bytes id e = rw e refl

pub some_bytes : (id : ℕ) {o : Option (List ℕ)} {s : List ℕ} → o ≡ some s → (numbered [] id ++ ascii " ") ++ quoted s ≡ string_bytes id o
unfolding string_bytes numbered
some_bytes id e = rw (e, append_assoc) refl
