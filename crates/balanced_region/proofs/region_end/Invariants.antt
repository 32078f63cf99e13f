use Rattle.cuts.specs.Window.{Window}
use Rattle.cuts.specs.Sources.{pairs_in}
use Rattle.balanced_region.specs.Walks.{EndWalk}
use mathlib.Core.Path.{◌≡◌}
use lib.ListN.{length}
use Rattle.balanced_region.proofs.region_end.Given as goal

abbrev pub invariant-loop-i : goal.invariant-loop-i
invariant-loop-i l = EndWalk l.source.text.now l.source.tape.now l.source.nodes l.source.pairs l.o.0 l.i l.from.0 l.depths.blocks l.depths.warichu × Window (pairs_in l.source) l.words × (length l.words ≡ length l.initial.words)
