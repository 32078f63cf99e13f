use Rattle.std.proofs.Common.{ℕ}
use Rattle.std.proofs.lemmas.List.{length-replicate}
use Rattle.levels.specs.Table.{made_kept}
use Rattle.levels.proofs.Book.levels_tabled.Goals as goal

pub put_tops-requires : goal.put_tops-requires
put_tops-requires c =
    record {
      tops_len = length-replicate {A = ℕ} 69904 0;
    }

pub put_uppers-requires : goal.put_uppers-requires
put_uppers-requires c =
    c.put_tops.ensures.size

pub levels_by_tops-requires : goal.levels_by_tops-requires
levels_by_tops-requires c =
    record {
      made = made_kept c.put_tops.ensures c.put_uppers.ensures.0 c.put_uppers.ensures.1;
    }
