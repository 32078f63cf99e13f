-- The lines of P5's reading, which is a book too, by computation; then those of a region marked in its text.
use Rattle.std.specs.Prelude.{◌≡◌, refl, ℕ}
use Rattle.std.proofs.Math.Option.{none, some}
use mathlib.Core.List.{List, [], ◌∷◌, flatten}
use Rattle.model.specs.Lists.{ascii}
use Rattle.model.specs.Tape.{tape_of, bytes_of}
use Rattle.model.specs.Examples.{ruby_reading}
use Rattle.model.specs.Computed.{computed}
use Rattle.records.specs.Uses.{use_of, use_in, word_use}
use Rattle.lines.specs.Quoted.{is_plain, escaped, escapes, quoted}
use Rattle.listing.specs.Table.{labels, rows, word_labels, sizes}
use Rattle.listing.specs.Listing.{string_bytes, value_bytes, item_bytes, word_item, part_of, shown, row_for, number_in, field_bytes, line_at, first_line, next_line, lines_from, listing}

abbrev t : List ℕ
t = tape_of ruby_reading

abbrev d : List ℕ
d = bytes_of ruby_reading

lines : listing t d none
    ≡ ascii "text 4 normalized 5 \"xb\\n\\n\"\n" ∷ ascii "layer 0\n" ∷ ascii "string 0 \"x\"\n" ∷ ascii "string 1 \"b\"\n" ∷ ascii "content 0 plain 0 \"x\"\n" ∷ ascii "content 1 plain 1 \"b\"\n"
    ∷ ascii "node 0 Inline 0..2 at 0 Ruby tag 0 plain 0 0 base 0 1 reading 1 1\n" ∷ ascii "end\n" ∷ []
unfolding computed flatten use_of use_in word_use is_plain escaped escapes quoted labels rows word_labels sizes string_bytes value_bytes item_bytes word_item part_of shown row_for number_in field_bytes line_at first_line next_line lines_from listing
lines = refl

marked : line_at t d (some (record { start = 2; end = 3 })) first_line ≡ ascii "text 4 normalized 5 region 2 3 \"xb\" | \"\\n\" | \"\\n\"\n"
unfolding computed flatten is_plain escaped escapes quoted labels rows value_bytes item_bytes part_of shown row_for number_in field_bytes line_at first_line
marked = refl
