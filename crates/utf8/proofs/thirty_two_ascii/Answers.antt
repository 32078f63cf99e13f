use Rattle.utf8.specs.Skips.{twice_ascii}
use Rattle.utf8.proofs.thirty_two_ascii.Goals as goal

pub returns : goal.returns
returns c =
    twice_ascii _ _ 16 _ _ c.sixteen_ascii.ensures c.sixteen_ascii-2.ensures
