use Rattle.std.proofs.Common.{ℕ}
use Rattle.std.proofs.lemmas.List.{length-replicate}
use Rattle.levels.proofs.Book.levels_by_tops.Goals as goal

pub put_heights-requires : goal.put_heights-requires
put_heights-requires c =
    record {
      heights_len = length-replicate {A = ℕ} 69904 0;
    }

pub put_uppers-requires : goal.put_uppers-requires
put_uppers-requires c =
    c.put_heights.ensures.size
