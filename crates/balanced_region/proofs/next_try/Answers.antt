use Rattle.std.proofs.Common.{rules}
use Rattle.balanced_region.specs.EndSearch.{try_no_line, try_pair}
use Rattle.balanced_region.proofs.next_try.Goals as goal

pub returns-then-not-blank_line_before : goal.returns-then-not-blank_line_before
returns-then-not-blank_line_before c =
    record {
      value = try_no_line _ _ _ _ c.blank_line_before.ensures c.if-not-blank_line_before.true;
      window_2 = c.requires.window;
    }

pub returns : goal.returns
returns c =
    record {
      value = try_pair _ _ _ _ c.blank_line_before.ensures c.if-not-blank_line_before.false _ c.reach_at.ensures.value _ (search rules);
      window_2 = c.reach_at.ensures.window_2;
    }
