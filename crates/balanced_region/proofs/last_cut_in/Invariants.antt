use Rattle.cuts.specs.Window.{Window}
use Rattle.cuts.specs.Sources.{pairs_in}
use Rattle.cuts.specs.Offsets.{last_from}
use Rattle.balanced_region.specs.EndSearch.{text_pairs_allow}
use mathlib.Core.Path.{◌≡◌}
use Prim.Native.Nat.{◌-◌}
use lib.ListN.{length}
use Rattle.balanced_region.proofs.last_cut_in.Given as goal

abbrev pub invariant-loop-c : goal.invariant-loop-c
invariant-loop-c l = (last_from (text_pairs_allow l.source.text.now (pairs_in l.source)) (l.c - l.fn.lo.0) l.fn.lo.0 l.d.0
    ≡ last_from (text_pairs_allow l.source.text.now (pairs_in l.source)) (l.fn.hi.0 - l.fn.lo.0) l.fn.lo.0 l.d.0) × Window (pairs_in l.source) l.words × (length l.words ≡ length l.initial.words)
