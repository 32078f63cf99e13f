use Rattle.utf8.specs.Skips.{twice_ascii}
use Rattle.utf8.proofs.sixty_four_ascii.Goals as goal

pub returns : goal.returns
returns c =
    twice_ascii _ _ 32 _ _ c.thirty_two_ascii.ensures c.thirty_two_ascii-2.ensures
