use Rattle.utf8.specs.Skips.{twice_ascii}
use Rattle.utf8.proofs.sixteen_ascii.Goals as goal

pub returns : goal.returns
returns c =
    twice_ascii _ _ 8 _ _ c.eight_ascii.ensures c.eight_ascii-2.ensures
