use Rattle.utf8.specs.Skips.{eight_ascii}
use Rattle.utf8.proofs.eight_ascii.Goals as goal

pub returns : goal.returns
returns c =
    eight_ascii _ _ _ _ c.four_ascii.ensures c.four_ascii-2.ensures
