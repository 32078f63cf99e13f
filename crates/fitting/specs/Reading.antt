-- Numbers 12 to 17 of a reading, by the code's tests on tapes and parts of bytes.
use Rattle.std.specs.Prelude.{◌≡◌, ℕ, ◌+◌, ◌-◌, ◌≤◌, Bool, true, false, ◌||◌, List, length, take, drop}
use Rattle.std.proofs.Common.{refl, sym, ap, ap₂, ◌∙◌, arith}
use Rattle.std.proofs.Math.Nat.{sub-zero}
use Rattle.model.specs.Lists.{any, same}
use Rattle.model.specs.Offset.{Span}
use Rattle.model.specs.Types.{Diagnostic, LexOutput, RegionOutput}
use Rattle.model.specs.Tape.{records_at, diagnostic_codec, places, book_at}
use Rattle.model.specs.Region.{Edit, edited, region_text}
use Rattle.model.specs.Merge.{new_region_text, balanced_nodes, is_unclosed, mark_at_empty_region, introduces_ruby_format_dependency, window_of, cuts_ok}
use Rattle.places.specs.declared.Places.{Places}
use Rattle.store.specs.declared.Store.{Store}
use Rattle.store.specs.Lengths.{BookLengths, book_lengths}
use Rattle.passage.specs.Text.{edit_within, region_length, text_book}
use Rattle.passage.specs.Window.{ends_on_boundaries}
use Rattle.passage.specs.Layers.{layer_missing, missing_of, missing_book}
use Rattle.reading.specs.Book.{normalized_found, balanced_book, diagnostics_book, cuts_book}
use Rattle.splice.specs.declared.Window.{Window}
use Rattle.span.specs.Values.{span_of}
use Rattle.tape.specs.Held.{Held, held_text}
use Rattle.tape.specs.StringBytes.{book_of}
use Rattle.tape.specs.declared.book.Book.{Book}
use Rattle.fitting.specs.Numbers.{cut_number, unclosed_or_marked, reading_number, number_12, number_13, number_14, number_rest, number_15, number_16, number_17, number_0}
use Rattle.fitting.specs.Fits.{nodes_of, RegionOf}
use Rattle.fitting.specs.Window.{CutsOf, given_inside}

module _ {t d : List ℕ} {p : Places} {st : Store} (h : Held t d p st) where
  pub held_lengths : BookLengths (book_at t (places t) d) p
  held_lengths = book_lengths t d p h.accepted.framing h.is

  -- both texts as the code takes them
  text_taken : take (p.text.0 - 0) d ≡ (book_at t (places t) d).sanitized
  text_taken = ap (λ (n : ℕ). take n d) (sub-zero p.text.0) ∙ held_text h

  normalized_taken : {first end : ℕ} → first ≡ p.text.0 → end ≡ first + p.normalized.0 → take (end - first) (drop first d) ≡ (book_at t (places t) d).normalized
  normalized_taken {first} {end} e f =
      let n : end - first ≡ p.normalized.0 = omega (arith, f) in
      ap (λ (k : ℕ). take k (drop first d)) n ∙ ap (λ (k : ℕ). take p.normalized.0 (drop k d)) e ∙ normalized_found t d h.is

-- ---- 12 to 17

module _ {b : Book} {e : Edit} {r : Span} (g : RegionOf b e r) where
  abbrev old : LexOutput
  old = book_of b

  pub region_asked : (r.start ≤ e.start) × (e.start ≤ e.end) × (e.end ≤ r.end) × (r.end ≤ length old.sanitized)
  region_asked =
      let i = given_inside g in
      let n = (held_lengths b.held).text in
      (i.start, i.edit, i.end, omega (arith, i.text, n))

  -- the passage, as the code takes it
  module _ {passage : List ℕ} (f : (x : LexOutput) → take (b.places.text.0 - 0) b.bytes.now ≡ x.sanitized → passage ≡ region_text x r) where
    is_passage : passage ≡ region_text old r
    is_passage = f old (text_taken b.held)

    pub passage_asked : (e.start - r.start ≤ e.end - r.start) × (e.end - r.start ≤ length passage)
    passage_asked =
        let n = ap length is_passage ∙ region_length old r (omega (arith, region_asked)) region_asked.3 in
        (omega (arith, region_asked), omega (arith, region_asked, n))

    module _ (reading : Book) where
      abbrev new : RegionOutput
      new = book_of reading

      module _ {x₁ : Bool} (f₁ : x₁ ≡ same (take (reading.places.text.0 - 0) reading.bytes.now) (edited passage (edit_within r e))) where
        twelve : x₁ ≡ same new.sanitized (new_region_text old e r)
        twelve = text_book old new e r region_asked is_passage (text_taken reading.held) f₁

        pub refused_12 : x₁ ≡ false → 12 ≡ reading_number old e r new
        refused_12 = number_12 old e r new twelve

        module _ (h₁ : x₁ ≡ true) {x₂ : Bool} (f₂ : x₂ ≡ balanced_nodes (nodes_of reading)) where
          thirteen : x₂ ≡ balanced_nodes new.source_nodes
          thirteen = balanced_book reading.tape.now reading.bytes.now reading.held.is f₂

          pub refused_13 : x₂ ≡ false → 13 ≡ reading_number old e r new
          refused_13 = number_13 old e r new twelve h₁ thirteen

          module _ (h₂ : x₂ ≡ true) {x₃ y₃ : Bool} (f₃ : x₃ ≡ any is_unclosed (records_at diagnostic_codec reading.tape.now reading.places.diagnostics.at reading.places.diagnostics.count))
              (g₃ : y₃ ≡ mark_at_empty_region (records_at diagnostic_codec b.tape.now b.places.diagnostics.at b.places.diagnostics.count) r) where
            fourteen : x₃ || y₃ ≡ unclosed_or_marked old r new
            fourteen =
                ap₂ (λ (x y : Bool). x || y) (diagnostics_book reading.tape.now reading.bytes.now reading.held.is (any is_unclosed) f₃)
                (diagnostics_book b.tape.now b.bytes.now b.held.is (λ (ds : List Diagnostic). mark_at_empty_region ds r) g₃)

            pub refused_14 : x₃ || y₃ ≡ true → 14 ≡ reading_number old e r new
            refused_14 = number_14 old e r new twelve h₁ thirteen h₂ fourteen

            pub refused_cut : x₃ ≡ false → y₃ ≡ false → {n : ℕ} → n ≡ cut_number old e r new → n ≡ reading_number old e r new
            refused_cut h₃ k₃ = number_rest old e r new twelve h₁ thirteen h₂ fourteen (rw (h₃, k₃) refl)

module _ {b : Book} {w : Window} (c : CutsOf b w) (reading : Book) (e : Edit) where
  abbrev book : LexOutput
  book = book_of b

  abbrev reading_book : RegionOutput
  reading_book = book_of reading

  abbrev region : Span
  region = span_of w.source

  module _ {x₄ : Bool} (f₄ : x₄ ≡ introduces_ruby_format_dependency book reading_book region) where
    pub refused_15 : x₄ ≡ true → 15 ≡ cut_number book e region reading_book
    refused_15 = number_15 book e region reading_book f₄

    module _ (h₄ : x₄ ≡ false) {first last : ℕ} (u : first ≡ b.places.text.0) (v : last ≡ first + b.places.normalized.0)
        {x₅ : Bool} (f₅ : x₅ ≡ ends_on_boundaries (take (last - first) (drop first b.bytes.now)) w.normalized.start.0 w.normalized.end.0) where
      sixteen : x₅ ≡ cuts_ok book (window_of book e reading_book region)
      sixteen = cuts_book b.tape.now b.bytes.now b.held.is e reading_book region c.start c.end (normalized_taken b.held u v) f₅

      pub refused_16 : x₅ ≡ false → 16 ≡ cut_number book e region reading_book
      refused_16 = number_16 book e region reading_book f₄ h₄ sixteen

      module _ (h₅ : x₅ ≡ true) {x₆ : Bool} (f₆ : x₆ ≡ missing_of reading.places.nodes.count b.places.layers) where
        seventeen : x₆ ≡ layer_missing book reading_book
        seventeen = f₆ ∙ missing_book book reading_book (held_lengths reading.held).nodes (held_lengths b.held).layers

        pub refused_17 : x₆ ≡ true → 17 ≡ cut_number book e region reading_book
        refused_17 h₆ = number_17 book e region reading_book f₄ h₄ sixteen h₅ (sym seventeen ∙ h₆)

        pub refused_none : x₆ ≡ false → 0 ≡ cut_number book e region reading_book
        refused_none h₆ = number_0 book e region reading_book f₄ h₄ sixteen h₅ (sym seventeen ∙ h₆)
