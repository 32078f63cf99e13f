use Rattle.std.proofs.Common.{◌∙◌}
use Rattle.balanced_region.specs.EndSearch.{try_same}
use Rattle.balanced_region.proofs.text_pairs_allow.Goals as goal

pub returns : goal.returns
returns c =
    record {
      value = c.eq.ensures ∙ try_same _ _ _ _ c.next_try.ensures.value;
      window_2 = c.next_try.ensures.window_2;
    }
