use Rattle.cuts.specs.Window.{Noted}
use Rattle.cuts.specs.Pairs.{pairs_from}
use mathlib.Core.Path.{◌≡◌}
use lib.ListN.{length}
use Rattle.cuts.proofs.Source.note_pairs.Given as goal

abbrev pub invariant-loop-i : goal.invariant-loop-i
invariant-loop-i l = (length l.slots ≡ length l.initial.slots) × Noted (pairs_from l.self.tape.now l.self.pairs l.i) l.from.0 l.slots
