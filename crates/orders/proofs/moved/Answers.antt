use Rattle.orders.specs.Moved.{moved_capped}
use Rattle.orders.proofs.moved.Goals as goal

pub returns : goal.returns
returns c = moved_capped _ _ _ _ _ c.saturating_sub-removed.ensures c.saturating_sub.ensures c.try_from.ensures c.unwrap_or.ensures
