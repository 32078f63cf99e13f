use Rattle.balanced_region.specs.StartSearch.{last_closed, last_open}
use Rattle.balanced_region.proofs.gap_last.Goals as goal

pub returns-then-not-are_zero : goal.returns-then-not-are_zero
returns-then-not-are_zero c =
    record {
      value = last_closed _ _ _ _ _ _ _ _ c.are_zero.ensures c.if-not-are_zero.true;
      window_2 = c.requires.window;
    }

pub returns : goal.returns
returns c =
    record {
      value = last_open _ _ _ _ _ _ _ _ c.are_zero.ensures c.if-not-are_zero.false _ c.last_cut_in.ensures.value;
      window_2 = c.last_cut_in.ensures.window_2;
    }
