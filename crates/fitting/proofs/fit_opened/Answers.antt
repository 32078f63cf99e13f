use Rattle.std.proofs.Common.{sym, ap, subst, refl}
use Rattle.model.specs.Bytes.{AreBytes}
use Rattle.model.specs.Merge.{Stored}
use Rattle.refusal.specs.Refusal.{handed_on}
use Rattle.fitting.specs.Stages.{region_refused, reading_refused, fitting_refused, opened_fits}
use Rattle.fitting.proofs.fit_opened.Goals as goal

pub returns-in_err-region : goal.returns-in_err-region
returns-in_err-region c =
    rw (handed_on _ c.from_residual.ensures.1) (region_refused c.args.book.now _ _ _ c.in_err-region.ensures)

pub returns-in_err-reading : goal.returns-in_err-reading
returns-in_err-reading c =
    rw (handed_on _ c.from_residual-in_err-reading.ensures.1) (reading_refused c.args.book.now _ _ _ (record { chosen = sym c.in_ok-region.ensures }) c.in_err-reading.ensures)

pub fit_reading-requires : goal.fit_reading-requires
fit_reading-requires c =
    record { chosen = sym c.in_ok-region.ensures }

pub returns-in_err-window : goal.returns-in_err-window
returns-in_err-window c =
    rw (handed_on _ c.from_residual-in_err-window.ensures.1)
    (fitting_refused c.args.book.now _ _ _ (record { chosen = sym c.in_ok-region.ensures }) c.in_ok-reading.ensures c.in_err-window.ensures)

pub invariant_of-result : goal.invariant_of-result
invariant_of-result c = record {
  fits = opened_fits (record { chosen = sym c.in_ok-region.ensures }) c.in_ok-reading.ensures c.in_ok-window.ensures
      (subst AreBytes (ap (λ (s : Stored). s.tape) c.new.ensures) c.new.result.are_bytes.0) c.args.correction.now.reading.are_bytes.0;
}

pub returns : goal.returns
returns c =
    let r = c.in_ok-reading.ensures.0 in
    record { book = refl; edit = refl; reading = rw (r.tape, r.bytes) refl }
