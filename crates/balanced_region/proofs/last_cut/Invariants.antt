use Rattle.cuts.specs.Window.{Window}
use Rattle.cuts.specs.Sources.{pairs_in}
use Rattle.balanced_region.specs.Walks.{DownWalk}
use mathlib.Core.Path.{◌≡◌}
use lib.ListN.{length}
use Rattle.balanced_region.proofs.last_cut.Given as goal

abbrev pub invariant-loop-d : goal.invariant-loop-d
invariant-loop-d l = DownWalk l.source.text.now l.source.tape.now l.source.nodes l.source.pairs l.d l.fn.bound.0 l.i l.depths.blocks l.depths.warichu l.hi.0 × Window (pairs_in l.source) l.words × (length l.words ≡ length l.initial.words)

abbrev pub decreases-loop-d : goal.decreases-loop-d
decreases-loop-d l = l.i
