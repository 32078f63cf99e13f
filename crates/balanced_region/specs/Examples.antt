-- Regions of small texts, by computation. The newline at the edit's end stands in crate model (Traps).
use Rattle.std.specs.Prelude.{ℕ, ◌+◌, ◌-◌, ◌≡◌, refl, [], ◌∷◌}
use Rattle.model.specs.Types.{PairLink}
use Rattle.model.specs.Region.{depth_behind, depth, nodes_before, nodes_allow_cut, pairs_allow_cut, blank_line_before}
use Rattle.cuts.specs.Safe.{safe_cut_in, cut_allowed}
use Rattle.balanced_region.specs.Ends.{region_start_in, region_end_in}
use Rattle.cuts.specs.Pairs.{reach, reach_of}
use Rattle.balanced_region.specs.EndSearch.{next_try}
use Rattle.balanced_region.specs.Unmatched.{depths_before, no_depths, depths_past, last_unmatched}
use Rattle.cuts.specs.Gaps.{closes_nothing}
use Rattle.cuts.specs.Depths.{closes_unopened}
use Rattle.cuts.specs.Examples.{node_of, lines}

abbrev pair_of : ℕ → ℕ → PairLink
pair_of start end = record { kind = 0; opening = record { start = start; end = start + 1 }; closing = record { start = end - 1; end = end } }

-- the length behind a newline is a start; else it is the last cut at or before the offset; before the first cut it is 0
starts : (region_start_in lines [] [] 12 ≡ 12) × (region_start_in lines [] [] 11 ≡ 10) × (region_start_in lines [] [] 7 ≡ 7) × (region_start_in lines [] [] 1 ≡ 0)
unfolding region_start_in safe_cut_in cut_allowed blank_line_before nodes_allow_cut nodes_before depth pairs_allow_cut
starts = (refl, refl, refl, refl)

-- a block that opens at 2 and closes at 8 has no cut inside; a warichu that does not close has none behind it
blocks : (region_start_in lines (node_of 2 0 0 2 3 ∷ node_of 3 0 0 7 8 ∷ []) [] 9 ≡ 2) × (region_end_in lines (node_of 2 0 0 2 3 ∷ node_of 3 0 0 7 8 ∷ []) [] 9 3 ≡ 10)
    × (region_end_in lines (node_of 0 13 4 2 3 ∷ []) [] 9 3 ≡ 12) × (region_start_in lines (node_of 0 13 4 2 3 ∷ []) [] 11 ≡ 2)
unfolding region_start_in region_end_in safe_cut_in cut_allowed blank_line_before nodes_allow_cut nodes_before depth depth_behind pairs_allow_cut
blocks = (refl, refl, refl, refl)

-- of a close without an open, a block that opens and a node behind the bound: two nodes, the first of them unmatched
unmatched_close : depths_before 8 no_depths (node_of 3 0 0 2 3 ∷ node_of 2 0 0 4 5 ∷ node_of 0 1 0 8 9 ∷ []) ≡ record { count = 2; depths = record { blocks = 1; warichu = 0 }; unmatched = 1 }
unfolding depths_before no_depths depths_past last_unmatched closes_unopened closes_nothing depth_behind
unmatched_close = refl

-- the search goes on where the pair across the offset ends; the start lies before it
pairs_across : (next_try lines (pair_of 3 9 ∷ []) 7 ≡ 9) × (region_end_in lines [] (pair_of 3 9 ∷ []) 9 3 ≡ 10) × (region_start_in lines [] (pair_of 3 9 ∷ []) 9 ≡ 2)
unfolding next_try reach reach_of region_start_in region_end_in safe_cut_in cut_allowed blank_line_before nodes_allow_cut nodes_before depth pairs_allow_cut
pairs_across = (refl, refl, refl)
