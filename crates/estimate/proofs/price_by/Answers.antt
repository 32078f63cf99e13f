use Rattle.std.proofs.Common.{arith}
use Rattle.estimate.specs.Pricing.{over_sizes_lem, over_calls, not_over}
use Rattle.estimate.proofs.price_by.Goals as goal

pub returns-in_default : goal.returns-in_default
returns-in_default c = over_sizes_lem _ _ c.args.s c.in_default.not-Some c.over.ensures

pub returns-then-s-gt-MAX_POOL : goal.returns-then-s-gt-MAX_POOL
returns-then-s-gt-MAX_POOL c = over_calls _ _ c.in-Some.is c.if-s-gt-MAX_POOL.true c.over-then-s-gt-MAX_POOL.ensures

pub returns : goal.returns
returns c = not_over _ _ c.in-Some.is (omega arith)
