use Rattle.std.proofs.Common.{rules}
use Rattle.balanced_region.specs.EndSearch.{gap_closed, gap_open}
use Rattle.balanced_region.proofs.gap_first.Goals as goal

pub returns-then-not-are_zero : goal.returns-then-not-are_zero
returns-then-not-are_zero c =
    record {
      value = gap_closed _ _ _ _ _ _ _ c.are_zero.ensures c.if-not-are_zero.true;
      window_2 = c.requires.window;
    }

pub returns : goal.returns
returns c =
    record {
      value = gap_open _ _ _ _ _ _ _ c.are_zero.ensures c.if-not-are_zero.false _ (search rules) _ c.first_cut_in.ensures.value;
      window_2 = c.first_cut_in.ensures.window_2;
    }
