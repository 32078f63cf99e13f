-- Two corrections of one book with separate regions, E the earlier-lying and L the later-lying, merged in both orders: that they fit.
-- proofs/Orders.antt has what follows.
use Rattle.std.specs.Prelude.{◌≡◌, ◌≤◌, false}
use Rattle.model.specs.Offset.{Span}
use Rattle.model.specs.Types.{LexOutput, RegionOutput}
use Rattle.model.specs.Region.{Edit}
use Rattle.model.specs.Merge.{mark_at_empty_region}
use Rattle.model.specs.Demand3.{moved_behind, region_behind}
use Rattle.laws.specs.Checks.{merged_of}
use Rattle.commute.specs.Merged.{Fit}

pub record FourMerges (b : LexOutput) (E L : Edit) (RE RL : RegionOutput) (r_e r_l : Span) : Type 0 where
  pub first_e : Fit b E RE r_e
  pub first_l : Fit b L RL r_l
  pub apart : r_e.end ≤ r_l.start
  pub second_l : Fit (merged_of b E RE r_e) (moved_behind E L) RL (region_behind E r_l)
  pub second_e : Fit (merged_of b L RL r_l) E RE r_e
  -- number 14 of the second merges, asked of the books as they then are (wish 5)
  pub unmarked_l : mark_at_empty_region (merged_of b E RE r_e).diagnostics (region_behind E r_l) ≡ false
  pub unmarked_e : mark_at_empty_region (merged_of b L RL r_l).diagnostics r_e ≡ false
