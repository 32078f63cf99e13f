use Rattle.level_blocks.specs.Level.{level_read}
use Rattle.level_blocks.proofs.level_below.Goals as goal

pub returns : goal.returns
returns c =
    level_read _ _ _
