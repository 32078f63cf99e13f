use Rattle.balanced_region.specs.Unmatched.{unmatched_here, unmatched_before}
use Rattle.balanced_region.proofs.Passed.unmatched_past.Goals as goal

pub returns-then-closes_unopened : goal.returns-then-closes_unopened
returns-then-closes_unopened c = unmatched_here _ _ _ c.closes_unopened.ensures c.if-closes_unopened.true

pub returns-else-closes_unopened : goal.returns-else-closes_unopened
returns-else-closes_unopened c = unmatched_before _ _ _ c.closes_unopened.ensures c.if-closes_unopened.false
