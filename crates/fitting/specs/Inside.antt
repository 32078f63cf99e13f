-- What follows of what is merged: where the edit and its region lie in the old texts, and how long both books are.
use Rattle.std.specs.Prelude.{◌≡◌, ◌+◌, ◌-◌, ◌≤◌, ℕ, length}
use Rattle.std.proofs.Math.Path.{ap}
use Rattle.std.proofs.Common.{arith}
use Rattle.model.specs.Limits.{max_text}
use Rattle.model.specs.Types.{LexOutput, RegionOutput}
use Rattle.model.specs.Region.{Edit}
use Rattle.model.specs.Merge.{MergeWindow, window_of}
use Rattle.facts.specs.Lists.{same_eq}
use Rattle.laws.specs.Checks.{Chosen, chosen_facts, LimitFacts, limit_facts}
use Rattle.laws.specs.Nodes.{normal_inside}
use Rattle.commute.specs.Merged.{Fit, normal_region_rises}
use Rattle.commute.specs.Step.{Begun, begun_fit}
use Rattle.edit.specs.Same.{edited_length}
use Rattle.store.specs.Lengths.{BookLengths}
use Rattle.tape.specs.StringBytes.{book_of}
use Rattle.tape.specs.declared.book.Book.{Book}
use Rattle.fitting.specs.Fits.{Fits, well_formed}
use Rattle.fitting.specs.Reading.{held_lengths}

-- where the edit and the region lie in the old texts
pub record Inside (e : Edit) (w : MergeWindow) (text normalized : ℕ) : Type 0 where
  pub rising : e.start ≤ e.end
  pub ends : e.end ≤ text
  pub normal_rising : w.normalized.start ≤ w.normalized.end
  pub normal_ends : w.normalized.end ≤ normalized
  pub limit : e.start + length e.replacement + (text - e.end) ≤ max_text
  pub short : text ≤ max_text
  pub normal_short : normalized ≤ max_text

module _ {book : Book} {e : Edit} {w : MergeWindow} {reading : Book} (f : Fits book e w reading) where
  abbrev old : LexOutput
  old = book_of book

  abbrev read : RegionOutput
  read = book_of reading

  pub chosen : Chosen old e w.source
  chosen = chosen_facts old e w.source f.region

  pub begun : Begun old e w.source read
  begun = record {
    old_formed = well_formed book;
    reading_formed = well_formed reading;
    chosen = chosen;
    region_text = same_eq read.sanitized _ f.passed.region_text;
    balanced = f.passed.balanced;
  }

  pub fit : Fit old e read w.source
  fit = begun_fit begun

  pub lengths_old : BookLengths old book.places
  lengths_old = held_lengths book.held

  pub lengths_read : BookLengths read reading.places
  lengths_read = held_lengths reading.held

  pub limits_old : LimitFacts old
  limits_old = limit_facts old book.held.accepted.limits

  pub limits_read : LimitFacts read
  limits_read = limit_facts read reading.held.accepted.limits

  window_start : w.normalized.start ≡ (window_of old e read w.source).normalized.start
  window_start = ap (λ (x : MergeWindow). x.normalized.start) f.window

  window_end : w.normalized.end ≡ (window_of old e read w.source).normalized.end
  window_end = ap (λ (x : MergeWindow). x.normalized.end) f.window

  pub inside : Inside e w book.places.text.0 book.places.normalized.0
  unfolding window_of
  inside =
      let l = lengths_old in
      let m = limits_old in
      let n = edited_length old.sanitized e chosen.rising chosen.inside in
      record {
        rising = chosen.rising;
        ends = omega (arith, chosen.inside, l.text);
        normal_rising = omega (arith, window_start, window_end, normal_region_rises fit);
        normal_ends = omega (arith, window_end, l.normalized, normal_inside fit.old_sound fit.end_safe fit.inside);
        limit = omega (arith, n, chosen.limit, l.text);
        short = omega (arith, m.sanitized, l.text);
        normal_short = omega (arith, m.normalized, l.normalized);
      }
