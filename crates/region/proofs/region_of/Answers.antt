use Rattle.std.proofs.Common.{refl}
use Rattle.refusal.specs.Refusal.{handed_on}
use Rattle.region.specs.Entry.{choose_refused, choose_opened}
use Rattle.region.proofs.region_of.Goals as goal

pub returns-in_err-book : goal.returns-in_err-book
returns-in_err-book c =
    (rw (handed_on _ c.from_residual.ensures.1) (choose_refused _ _ _ c.in_err-book.ensures), refl)

pub returns : goal.returns
returns c =
    (choose_opened c.in_ok-book.ensures _ c.chosen_region.ensures, c.chosen_region.auto.words)
