use Rattle.wire.specs.Loops.{Passed}
use Rattle.places.specs.Walked.{layer_test}
use Rattle.levels.specs.Whole.{run_levels}
use Rattle.levels.proofs.Book.layers_ok.Given as goal

abbrev pub invariant-loop-k : goal.invariant-loop-k
invariant-loop-k l = Passed (layer_test (run_levels l.self.tape.now l.self.st.now) l.self.tape.now) l.k
