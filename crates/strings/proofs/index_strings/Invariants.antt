use Rattle.std.proofs.Common.{◌≡◌, length}
use Rattle.strings.specs.Index.{Indexing}
use Rattle.strings.specs.Starts.{lengths_in}
use Rattle.strings.proofs.index_strings.Given as goal

abbrev pub invariant-loop-j : goal.invariant-loop-j
invariant-loop-j l = (length l.words ≡ length l.initial.words) × Indexing (lengths_in l.tape) l.initial.words l.step l.j l.from l.start l.words
