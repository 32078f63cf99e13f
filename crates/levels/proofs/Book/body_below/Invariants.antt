use Rattle.levels.specs.Below.{word_below}
use Rattle.records.specs.Values.{body_at}
use Rattle.wire.specs.Loops.{Passed}
use Rattle.levels.proofs.Book.body_below.Given as goal

abbrev pub invariant-loop-i : goal.invariant-loop-i
invariant-loop-i l = Passed (word_below l.self.tape.now l.self.st.now l.level (body_at l.self.tape.now l.at)) l.i
