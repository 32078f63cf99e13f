use Rattle.std.proofs.Common.{arith, length-set}
use Rattle.representatives.proofs.put_pair.Goals as goal

pub bounds-words-n : goal.bounds-words-n
bounds-words-n c =
    simp length-set (omega arith)
