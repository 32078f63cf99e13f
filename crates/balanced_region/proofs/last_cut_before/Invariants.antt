use Rattle.cuts.specs.Window.{Window}
use Rattle.cuts.specs.Sources.{pairs_in}
use Rattle.balanced_region.specs.Walks.{LastWalk}
use mathlib.Core.Path.{◌≡◌}
use lib.ListN.{length}
use Rattle.balanced_region.proofs.last_cut_before.Given as goal

abbrev pub invariant-loop-i : goal.invariant-loop-i
invariant-loop-i l = LastWalk l.source.text.now l.source.tape.now l.source.nodes l.source.pairs l.bound.0 l.i l.from.0 l.depths.blocks l.depths.warichu l.last.0 × Window (pairs_in l.source) l.words × (length l.words ≡ length l.initial.words)
