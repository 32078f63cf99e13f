-- The lines of a book: a line a record, in tape order. Each shows the fields that Table.antt names.
use Rattle.std.specs.Prelude.{ℕ, zero, suc, ◌+◌, ◌-◌, ◌*◌, Bool, true, false, cond, length, get_or, set, replicate, leb, ltb, eqb}
use Rattle.std.proofs.Math.Option.{Option, none, some}
use mathlib.Core.List.{List, [], ◌∷◌, ◌++◌, map, flatten}
use Rattle.model.specs.Lists.{ascii}
use Rattle.model.specs.Bytes.{byte_at, word_at, part}
use Rattle.model.specs.Offset.{Span}
use Rattle.model.specs.Types.{LexOutput}
use Rattle.model.specs.Tape.{places, book_at}
use Rattle.model.specs.Lookup.{lookup_str}
use Rattle.model.specs.Runs.{decimal}
use Rattle.records.specs.Uses.{word_use}
use Rattle.lines.specs.Quoted.{quoted}
use Rattle.listing.specs.declared.Cursor.{Cursor}
use Rattle.listing.specs.Table.{Shows, Shows.label_only, Shows.ordinal, Shows.own_string, Shows.byte, Shows.word, Shows.name, Shows.string_id, Shows.body_word, Shows.region_start, Shows.region_end, Shows.text_part, Field, labels, rows, word_labels, sizes}

-- ---- an item: a label, and what it shows

-- nothing, a number, the string of an id, or the bytes of the buffer from one place up to another
pub data Value : Type 0 where
  no_value : Value
  number string : ℕ → Value
  text : ℕ → ℕ → Value

pub record Item : Type 0 where
  pub label : List ℕ
  pub value : Value

abbrev pub item : List ℕ → Value → Item
item l v = record { label = l; value = v }

-- A string id stands with its string; an id that shows none, as a missing one, is `none`.
unfoldable pub string_bytes : ℕ → Option (List ℕ) → List ℕ
string_bytes id none = ascii "none"
string_bytes id (some s) = decimal id ++ (ascii " " ++ quoted s)

-- `b` is the book, `d` its byte buffer.
unfoldable pub value_bytes : LexOutput → List ℕ → Value → List ℕ
value_bytes b d no_value = []
value_bytes b d (number n) = decimal n
value_bytes b d (string id) = string_bytes id (lookup_str b id)
value_bytes b d (text from to) = quoted (part d from (to - from))

unfoldable pub item_bytes : LexOutput → List ℕ → Item → List ℕ
item_bytes b d i = i.label ++ value_bytes b d i.value

-- ---- the item of a field

-- A word of a body by its role, its `word_use`: an unused word is not shown; a string id with its string; start and length as numbers.
unfoldable pub word_item : ℕ → ℕ → ℕ → ℕ → Item
word_item kind role i w = cond (eqb role 0) (item [] no_value) (item (get_or (get_or word_labels kind []) i []) (cond (leb role 2) (string w) (number w)))

-- whether there is a region, and an empty one where there is none
abbrev pub marked : Option Span → Bool
marked none = false
marked (some r) = true

abbrev pub region_of : Option Span → Span
region_of none = record { start = 0; end = 0 }
region_of (some r) = r

-- Of a text of `size` bytes: 0 before the region, 1 the region, 2 behind it, 3 all.
unfoldable pub part_of : Option Span → ℕ → ℕ → Value
part_of m size k =
    let r = region_of m in
    cond (eqb k 0) (text 0 r.start) (cond (eqb k 1) (text r.start r.end) (cond (eqb k 2) (text r.end size) (text 0 size)))

-- of the record at p, the n-th of its command
unfoldable pub shown : List ℕ → Option Span → ℕ → ℕ → List ℕ → Shows → Item
shown t m p n l label_only = item l no_value
shown t m p n l ordinal = item l (number n)
shown t m p n l own_string = item l (string n)
shown t m p n l (byte k) = item l (number (byte_at t (p + k)))
shown t m p n l (word k) = item l (number (word_at t (p + k)))
shown t m p n l (name first k) = item (get_or labels (first + byte_at t (p + k)) []) no_value
shown t m p n l (string_id k) = item l (string (word_at t (p + k)))
shown t m p n l (body_word k i) = word_item (byte_at t (p + k)) (word_use (byte_at t (p + k)) (byte_at t (p + k + 1)) i) i (word_at t (p + k + 10 + 4 * i))
shown t m p n l region_start = item l (number (region_of m).start)
shown t m p n l region_end = item l (number (region_of m).end)
shown t m p n l (text_part k) = item l (part_of m (word_at t 1) k)

-- ---- a line

-- The row of `rows` for a record with this command and this byte behind it: the command, but for a head with an edit, a Segments content, and
-- a node that opens or closes a block.
unfoldable pub row_for : ℕ → Bool → ℕ → ℕ
row_for command edit second =
    cond (ltb 10 command) 0
    (cond (eqb command 1) (cond edit 11 1)
    (cond (eqb command 4) (cond (eqb second 0) 4 12)
    (cond (eqb command 6) (cond (ltb second 2) 6 13) command)))

abbrev pub row_of : List ℕ → Bool → ℕ → ℕ
row_of t edit p = row_for (byte_at t p) edit (byte_at t (p + 1))

-- `seen` counts the records of each command that were passed; a byte that is no command has no number.
unfoldable pub number_in : List ℕ → Cursor → ℕ
number_in t c = cond (ltb 10 (byte_at t c.at)) 0 (get_or c.seen (byte_at t c.at) 0)

unfoldable pub field_bytes : List ℕ → List ℕ → Option Span → ℕ → ℕ → Field → List ℕ
field_bytes t d m p n f = item_bytes (book_at t (places t) d) d (shown t m p n f.label f.shows)

-- the line of the record at a cursor, in a book of tape t and bytes d
unfoldable pub line_at : List ℕ → List ℕ → Option Span → Cursor → List ℕ
line_at t d m c = flatten (map (field_bytes t d m c.at (number_in t c)) (get_or rows (row_of t (marked m) c.at) [])) ++ ascii "\n"

-- ---- all lines

unfoldable pub first_line : Cursor
first_line = record { at = 0; seen = replicate 11 0 }

-- behind the record at a cursor
unfoldable pub next_line : List ℕ → Cursor → Cursor
next_line t c = record {
  at = c.at + get_or sizes (byte_at t c.at) 1;
  seen = cond (ltb 10 (byte_at t c.at)) c.seen (set c.seen (byte_at t c.at) (number_in t c + 1));
}

-- the lines from a cursor on; the tape's length bounds how many they are
unfoldable pub lines_from : ℕ → List ℕ → List ℕ → Option Span → Cursor → List (List ℕ)
lines_from zero t d m c = []
lines_from (suc n) t d m c =
    let more = line_at t d m c ∷ lines_from n t d m (next_line t c) in
    cond (ltb c.at (length t)) more []

unfoldable pub listing : List ℕ → List ℕ → Option Span → List (List ℕ)
listing t d m = lines_from (length t) t d m first_line
