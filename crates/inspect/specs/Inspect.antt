-- The program `inspect`: its input, and the lines that it prints. The input is ours, in the manner of document 01's 'Runs': two little-endian
-- u32, the lengths of tape and bytes, and these two parts; then nothing, or an edit: three u32, start, end, length of the replacement, and the
-- replacement. Each part is at most 65536 bytes (else 3, tested once the numbers that give it are read). Short or surplus input is 1; both
-- precede all else. Then numbers 1 to 7 of the book, with an edit those up to 11.
use Rattle.std.specs.Prelude.{ℕ, ◌+◌, cond, not, ◌&&◌, List, [], ◌∷◌, ◌++◌, length, leb, ltb, eqb}
use Rattle.std.proofs.Math.Option.{Option, none, some}
use Rattle.model.specs.Lists.{ascii}
use Rattle.model.specs.Limits.{max_part}
use Rattle.model.specs.Bytes.{word_at, part}
use Rattle.model.specs.Offset.{Span}
use Rattle.model.specs.Types.{LexOutput}
use Rattle.model.specs.Tape.{places, book_at}
use Rattle.model.specs.Refusal.{Checked, Checked.refused, Checked.accepted, ◌>>=◌, refuse◌if◌}
use Rattle.model.specs.WellFormed.{check_book}
use Rattle.model.specs.Region.{Edit, region_text, choose_region}
use Rattle.lines.specs.Text.{numbered, refused_line}
use Rattle.lines.specs.Quoted.{quoted}
use Rattle.listing.specs.Listing.{listing}

-- ---- the input

abbrev pub tape_in : List ℕ → List ℕ
tape_in s = part s 8 (word_at s 0)

abbrev pub bytes_in : List ℕ → List ℕ
bytes_in s = part s (8 + word_at s 0) (word_at s 4)

-- where tape and bytes end, and an edit begins
abbrev pub behind : List ℕ → ℕ
behind s = 8 + word_at s 0 + word_at s 4

-- the edit whose three words stand at p
abbrev pub edit_at : List ℕ → ℕ → Edit
edit_at s p = record { start = word_at s p; end = word_at s (p + 4); replacement = part s (p + 12) (word_at s (p + 8)) }

-- Numbers 1 to 7; there is no region.
unfoldable pub asked_book : List ℕ → List ℕ → Checked (Option Span)
asked_book t d = do
  _ ← check_book t d
  accepted none

-- Numbers 1 to 11, and the region of an edit.
unfoldable pub asked_edit : List ℕ → List ℕ → Edit → Checked (Option Span)
asked_edit t d e = do
  r ← choose_region t d e
  accepted (some r)

-- the part behind tape and bytes, where there is one
unfoldable pub asked_behind : List ℕ → ℕ → Checked (Option Span)
asked_behind s p = do
  _ ← refuse 1 if ltb (length s) (p + 12)
  _ ← refuse 3 if not (leb (word_at s (p + 8)) max_part)
  _ ← refuse 1 if not (eqb (length s) (p + 12 + word_at s (p + 8)))
  asked_edit (tape_in s) (bytes_in s) (edit_at s p)

unfoldable pub asked : List ℕ → Checked (Option Span)
asked s = do
  _ ← refuse 1 if ltb (length s) 8
  _ ← refuse 3 if not (leb (word_at s 0) max_part && leb (word_at s 4) max_part)
  cond (eqb (length s) (behind s)) (asked_book (tape_in s) (bytes_in s)) (asked_behind s (behind s))

-- ---- the output

-- The passage that an edit makes be read anew: where it starts and ends, and its text in the old book.
unfoldable pub passage_line : LexOutput → Span → List ℕ
passage_line b r = numbered (ascii "passage ") r.start ++ (numbered (ascii " ") r.end ++ (ascii " " ++ (quoted (region_text b r) ++ ascii "\n")))

unfoldable pub passage_lines : LexOutput → Option Span → List (List ℕ)
passage_lines b none = []
passage_lines b (some r) = passage_line b r ∷ []

unfoldable pub book_lines : List ℕ → List ℕ → Option Span → List (List ℕ)
book_lines t d r = passage_lines (book_at t (places t) d) r ++ listing t d r

unfoldable pub lines_of : List ℕ → Checked (Option Span) → List (List ℕ)
lines_of s (refused n) = refused_line n ∷ []
lines_of s (accepted r) = book_lines (tape_in s) (bytes_in s) r

-- The lines that the program prints for an input: `refused N`, or with an edit its passage, then those of the book, the region marked in its
-- text.
unfoldable pub inspect : List ℕ → List (List ℕ)
inspect s = lines_of s (asked s)
