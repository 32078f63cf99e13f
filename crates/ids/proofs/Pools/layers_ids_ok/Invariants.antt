use Rattle.wire.specs.Loops.{Passed}
use Rattle.places.specs.Walked.{layer_test}
use Rattle.ids.specs.Whole.{runs_in}
use Rattle.ids.proofs.Pools.layers_ids_ok.Given as goal

abbrev pub invariant-loop-k : goal.invariant-loop-k
invariant-loop-k l = Passed (layer_test (runs_in l.self.tape.now l.self.st.now) l.self.tape.now) l.k
