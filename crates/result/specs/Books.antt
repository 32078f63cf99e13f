-- The texts and the bytes of a merged book, of a book and a reading that passed 1 to 17 (fitting's `Fits`).
use Rattle.std.specs.Prelude.{◌≡◌, ℕ, ◌+◌, ◌-◌, true, length}
use Rattle.std.proofs.Math.Path.{refl, sym, ap}
use Rattle.std.proofs.Common.{◌∙◌, arith}
use mathlib.Core.List.{List, ◌++◌, append_assoc}
use Rattle.model.specs.Lists.{is_empty}
use Rattle.model.specs.Types.{LexOutput, RegionOutput}
use Rattle.model.specs.Tape.{bytes_of}
use Rattle.model.specs.Region.{Edit, edited}
use Rattle.model.specs.Merge.{MergeWindow, merged_normalized, grafted, merged_book}
use Rattle.laws.specs.Fits.{fits}
use Rattle.laws.specs.ReadFits.{read_fits_lem}
use Rattle.laws.specs.Parts.{strings_bytes}
use Rattle.laws.specs.Splice.{splice}
use Rattle.places.specs.declared.Places.{Places}
use Rattle.tape.specs.StringBytes.{book_of}
use Rattle.tape.specs.declared.book.Book.{Book}
use Rattle.fitting.specs.Fits.{Fits}
use Rattle.fitting.specs.Inside.{chosen, inside, lengths_old, lengths_read}
use Rattle.result.specs.Parts.{new_string_bytes, merged_strings}
use Rattle.merged_texts.specs.Writing.{spliced_length}

-- the merge of two books
abbrev pub merge_of : LexOutput → Edit → RegionOutput → MergeWindow → LexOutput
merge_of old e reading w = merged_book old e reading w (grafted old reading)

module _ {book : Book} {e : Edit} {w : MergeWindow} {reading : Book} (b : Fits book e w reading) where
  abbrev p : Places
  p = book.places

  abbrev q : Places
  q = reading.places

  abbrev pub old : LexOutput
  old = book_of book

  abbrev pub read : RegionOutput
  read = book_of reading

  abbrev pub new : LexOutput
  new = merge_of old e read w

  pub old_fits_lem : fits old ≡ true
  old_fits_lem = read_fits_lem book.tape.now b.bytes book.bytes.now old book.held.accepted.parsed

  pub reading_fits_lem : fits read ≡ true
  reading_fits_lem = read_fits_lem reading.tape.now b.reading_bytes reading.bytes.now read reading.held.accepted.parsed

  -- ---- both texts

  pub new_text : new.sanitized ≡ splice e.start e.end e.replacement old.sanitized
  unfolding merged_book edited
  new_text = refl

  pub new_normalized : new.normalized ≡ splice w.normalized.start w.normalized.end read.normalized old.normalized
  unfolding merged_book merged_normalized
  new_normalized = refl

  pub text_length_lem : length new.sanitized ≡ e.start + length e.replacement + (p.text.0 - e.end)
  text_length_lem = ap length new_text ∙ spliced_length e.start e.end e.replacement old.sanitized (chosen b).rising (chosen b).inside ∙ (let l = lengths_old b in omega (arith, l.text))

  pub normalized_length_lem : length new.normalized ≡ w.normalized.start + q.normalized.0 + (p.normalized.0 - w.normalized.end)
  normalized_length_lem =
      let i = inside b in
      let l = lengths_old b in
      let m = lengths_read b in
      ap length new_normalized
      ∙ spliced_length w.normalized.start w.normalized.end read.normalized old.normalized i.normal_rising (omega (arith, i.normal_ends, l.normalized))
      ∙ omega (arith, l.normalized, m.normalized)

  -- ---- the bytes

  pub new_bytes : bytes_of new ≡ new.sanitized ++ new.normalized ++ strings_bytes old ++ new_string_bytes (is_empty read.source_nodes) (grafted old read).1
  unfolding bytes_of merged_book
  new_bytes =
      ap (λ (l : List ℕ). new.sanitized ++ (new.normalized ++ l)) (merged_strings old read (grafted old read).1)
      ∙ sym (append_assoc new.sanitized new.normalized _)
      ∙ sym (append_assoc (new.sanitized ++ new.normalized) (strings_bytes old) (new_string_bytes (is_empty read.source_nodes) (grafted old read).1))
