use Rattle.cuts.specs.Window.{Window}
use Rattle.cuts.specs.Sources.{pairs_in}
use Rattle.balanced_region.specs.EndSearch.{Tried, text_pairs_allow}
use mathlib.Core.Path.{◌≡◌}
use Prim.Native.Nat.{◌-◌}
use lib.ListN.{length}
use Rattle.balanced_region.proofs.first_cut_in.Given as goal

abbrev pub invariant-loop-c : goal.invariant-loop-c
invariant-loop-c l = Tried (text_pairs_allow l.source.text.now (pairs_in l.source)) l.fn.lo.0 l.c.0 × Window (pairs_in l.source) l.words × (length l.words ≡ length l.initial.words)

abbrev pub decreases-loop-c : goal.decreases-loop-c
decreases-loop-c l = l.hi.0 - l.c.0
