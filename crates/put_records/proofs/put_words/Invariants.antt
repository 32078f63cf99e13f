use Rattle.wire.specs.Overwrite.{Wrote}
use Rattle.put_records.specs.Written.{bytes_until}
use Rattle.put_records.proofs.put_words.Given as goal

abbrev pub invariant-loop-i : goal.invariant-loop-i
invariant-loop-i l = Wrote l.initial.out l.at (bytes_until l.fn.words l.i) l.out
