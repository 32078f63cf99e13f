use Rattle.std.proofs.Common.{refl}
use Rattle.refusal.specs.Refusal.{handed_on}
use Rattle.result.specs.Stages.{written_refused}
use Rattle.fitting.specs.Stages.{book_refused}
use Rattle.incremental.specs.Merging.{merge_refused}
use Rattle.incremental.proofs.merge_stored.Goals as goal

pub returns-in_err-opened : goal.returns-in_err-opened
returns-in_err-opened c =
    rw (handed_on _ c.from_residual.ensures.1) (written_refused _ _ _ _ (merge_refused _ _ _ _ (book_refused _ _ _ _ c.in_err-opened.ensures)) refl refl refl)

pub returns : goal.returns
returns c =
    let b = c.in_ok-opened.ensures in
    rw (b.tape, b.bytes) at c.merge_opened.ensures
