use Rattle.refusal.specs.Refusal.{handed_on}
use Rattle.estimate.specs.Pricing.{estimate_none, estimate_some}
use Rattle.estimate.proofs.estimate_stored.Goals as goal

pub returns-in_err-m : goal.returns-in_err-m
returns-in_err-m c =
    rw (handed_on _ c.from_residual.ensures.1) (estimate_none _ _ _ c.in_err-m.ensures)

pub returns : goal.returns
returns c = estimate_some _ _ _ c.in_ok-m.ensures c.price_fitted.ensures
