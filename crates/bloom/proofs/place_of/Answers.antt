use Rattle.std.proofs.Common.{arith}
use Rattle.bloom.specs.Filter.{place_at, share_fits}
use Rattle.bloom.proofs.place_of.Goals as goal

pub overflow_mul-result : goal.overflow_mul-result
overflow_mul-result c = let s = share_fits _ c.min-used.ensures c.requires.1 in omega (arith, s)

pub returns : goal.returns
returns c = place_at _ _ c.min-used.ensures
