use Rattle.records.specs.Values.{body_at}
use Rattle.wire.specs.Loops.{Passed}
use Rattle.ids.specs.Tests.{word_in}
use Rattle.ids.proofs.Pools.body_ids_ok.Given as goal

abbrev pub invariant-loop-i : goal.invariant-loop-i
invariant-loop-i l = Passed (word_in l.self.st.now (body_at l.self.tape.now l.at)) l.i
