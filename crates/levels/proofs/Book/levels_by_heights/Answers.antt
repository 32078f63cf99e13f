use Rattle.std.proofs.Common.{arith}
use Rattle.wire.specs.Loops.{passed_none}
use Rattle.levels.proofs.Book.levels_by_heights.Goals as goal

pub layers_ok-requires : goal.layers_ok-requires
layers_ok-requires c =
    record { before = (omega arith, passed_none _) }
