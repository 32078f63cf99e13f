-- What the stages of 1 to 17 answer, and the laws for their returns.
use Rattle.std.specs.Prelude.{◌≡◌, refl, ℕ, ◌<◌, List, length, Result, MatchResult}
use Rattle.std.proofs.Math.Path.{sym}
use Rattle.std.proofs.Common.{ap, ◌∙◌, subst, arith}
use Rattle.model.specs.Bytes.{AreBytes}
use Rattle.model.specs.Offset.{Span}
use Rattle.model.specs.Types.{LexOutput, RegionOutput}
use Rattle.model.specs.Refusal.{Checked, Checked.refused, Checked.accepted, ◌>>=◌}
use Rattle.model.specs.WellFormed.{check_book, check_reading}
use Rattle.model.specs.Region.{Edit, chosen_region}
use Rattle.model.specs.Merge.{Stored, stored_of, MergeWindow, normalized_offset, window_of, fitting, Fitted, fitted}
use Rattle.laws.specs.Checks.{Passed, passed_fitting, fitting_passed}
use Rattle.refusal.specs.declared.Refusal.{Refusal}
use Rattle.refusal.specs.Refusal.{number}
use Rattle.span.specs.Values.{span_of}
use Rattle.splice.specs.declared.Window.{Window}
use Rattle.splice.specs.Window.{window_value}
use Rattle.edit.specs.Values.{edit_value}
use Rattle.tape.specs.Accepted.{AcceptedReading}
use Rattle.tape.specs.Opened.{BookOf}
use Rattle.tape.specs.StringBytes.{book_of}
use Rattle.tape.specs.declared.book.Book.{Book}
use Rattle.fitting.specs.declared.merging.Merging.{Merging}
use Rattle.fitting.specs.Fits.{nodes_of, RegionOf, Fits}
use Rattle.fitting.specs.Numbers.{reading_number, number_refused, number_passed}
use Rattle.fitting.specs.Window.{window_from, window_is, CutsOf}
use Rattle.fitting.specs.Reading.{held_lengths}

-- ---- what is merged

-- what is merged is that book, that edit and that reading; what is known of them is its field `fits`
pub record MergingOf (s : Stored) (e : Edit) (rs : Stored) (m : Merging) : Type 0 where
  pub book : stored_of m.book.tape.now m.book.bytes.now ≡ s
  pub edit : edit_value m.edit ≡ e
  pub reading : stored_of m.reading.tape.now m.reading.bytes.now ≡ rs

-- 1 to 17: one of them, or what is merged
abbrev pub FitsOrRefused : Stored → Edit → Stored → Result Merging Refusal → Type 0
FitsOrRefused s e rs x = MatchResult x (λ m. MergingOf s e rs m) (λ r. fitted s e rs ≡ refused (number r))

-- as the model has it
abbrev pub fitted_value : Merging → Fitted
fitted_value m = record { old = book_of m.book; reading = book_of m.reading; window = window_value m.window }

fits_fitted : {b : Book} {e : Edit} {w : MergeWindow} {r : Book} → Fits b e w r
    → fitted (stored_of b.tape.now b.bytes.now) e (stored_of r.tape.now r.bytes.now) ≡ accepted (record { old = book_of b; reading = book_of r; window = w })
unfolding fitted ◌>>=◌
fits_fitted {b} {e} {w} {r} f =
    let p = passed_fitting (book_of b) e w.source (book_of r) f.passed ∙ ap accepted (sym f.window) in
    rw (b.held.accepted.book, f.region, f.reading.reading, p) refl

pub merging_fitted : {s : Stored} {e : Edit} {rs : Stored} {m : Merging} → MergingOf s e rs m → fitted s e rs ≡ accepted (fitted_value m)
merging_fitted {m = m} o = rw (o.book, o.edit, o.reading) at (fits_fitted m.fits)

-- ---- 12 to 17, by the code's window

module _ {b : Book} {e : Edit} {r : Span} (g : RegionOf b e r) (reading : Book) (w : Window)
    (f : window_value w ≡ window_from r.start r.end (normalized_offset (nodes_of b) r.start) (normalized_offset (nodes_of b) r.end) (length e.replacement) e.start e.end reading.places.normalized.0) where
  abbrev old : LexOutput
  old = book_of b

  abbrev new : RegionOutput
  new = book_of reading

  abbrev cut : ℕ → ℕ
  cut = normalized_offset (nodes_of b)

  source : span_of w.source ≡ r
  source = ap (λ (m : MergeWindow). m.source) f

  pub window_region : RegionOf b e (span_of w.source)
  window_region = subst (λ (s : Span). RegionOf b e s) (sym source) g

  pub window_ends : CutsOf b w
  window_ends = record {
    start = ap (λ (m : MergeWindow). m.normalized.start) f ∙ ap cut (sym (ap (λ (m : Span). m.start) source));
    end = ap (λ (m : MergeWindow). m.normalized.end) f ∙ ap cut (sym (ap (λ (m : Span). m.end) source));
  }

  module _ {n : ℕ} (k : n ≡ reading_number old e (span_of w.source) new) where
    here : n ≡ reading_number old e r new
    here = k ∙ ap (λ (s : Span). reading_number old e s new) source

    pub window_refused : 0 < n → refused n ≡ fitting old e r new
    window_refused h = sym (number_refused old e r new here (λ z. omega (arith, h, z)))

    pub window_fits : n ≡ 0 → accepted (window_value w) ≡ fitting old e r new
    window_fits z =
        let is = window_is g refl refl refl new (held_lengths reading.held).normalized w f in
        ap accepted is ∙ sym (passed_fitting old e r new (number_passed old e r new here z))

-- ---- 8 to 17, of an opened book

module _ (b : Book) (e : Edit) (rt rd : List ℕ) {n : ℕ} where
  pub region_refused : refused n ≡ chosen_region (book_of b) e → fitted (stored_of b.tape.now b.bytes.now) e (stored_of rt rd) ≡ refused n
  unfolding fitted ◌>>=◌
  region_refused k = rw (b.held.accepted.book, sym k) refl

  module _ {r : Span} (g : RegionOf b e r) where
    pub reading_refused : check_reading rt rd ≡ refused n → fitted (stored_of b.tape.now b.bytes.now) e (stored_of rt rd) ≡ refused n
    unfolding fitted ◌>>=◌
    reading_refused k = rw (b.held.accepted.book, g.chosen, k) refl

    pub fitting_refused : {reading : Book} → BookOf rt rd reading × AcceptedReading rt rd → refused n ≡ fitting (book_of b) e r (book_of reading)
        → fitted (stored_of b.tape.now b.bytes.now) e (stored_of rt rd) ≡ refused n
    unfolding fitted ◌>>=◌
    fitting_refused h k =
        let k' = rw (h.0.tape, h.0.bytes) at k in
        rw (b.held.accepted.book, g.chosen, h.1.reading, sym k') refl

module _ {b : Book} {e : Edit} {r : Span} (g : RegionOf b e r) {rt rd : List ℕ} {reading : Book} (h : BookOf rt rd reading × AcceptedReading rt rd) {w : MergeWindow}
    (k : accepted w ≡ fitting (book_of b) e r (book_of reading)) where
  window_passed : (window_of (book_of b) e (book_of reading) r ≡ w) × Passed (book_of b) e r (book_of reading)
  window_passed = fitting_passed (book_of b) e r (book_of reading) w (sym k)

  source_is : w.source ≡ r
  unfolding window_of
  source_is = ap (λ (m : MergeWindow). m.source) (sym window_passed.0)

  pub opened_fits : AreBytes b.tape.now → AreBytes rt → Fits b e w reading
  opened_fits x y = record {
    bytes = x;
    reading_bytes = rw h.0.tape y;
    reading = rw (h.0.tape, h.0.bytes) h.1;
    region = rw source_is g.chosen;
    window = sym window_passed.0 ∙ ap (window_of (book_of b) e (book_of reading)) (sym source_is);
    passed = rw source_is window_passed.1;
  }

-- ---- 1 to 17, of a stored book

pub book_refused : (t d : List ℕ) (e : Edit) (rs : Stored) {n : ℕ} → check_book t d ≡ refused n → fitted (stored_of t d) e rs ≡ refused n
unfolding fitted ◌>>=◌
book_refused t d e rs k = rw k refl

pub stored_fits : {t d : List ℕ} {b : Book} → BookOf t d b → (e : Edit) (rs : Stored) (x : Result Merging Refusal)
    → FitsOrRefused (stored_of b.tape.now b.bytes.now) e rs x → FitsOrRefused (stored_of t d) e rs x
stored_fits h e rs x f = rw (h.tape, h.bytes) at f
