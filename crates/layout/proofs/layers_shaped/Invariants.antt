use Rattle.wire.specs.Loops.{Passed}
use Rattle.places.specs.Again.{AtLayer}
use Rattle.places.specs.Walked.{layer_test}
use Rattle.layout.specs.Shaped.{runs_shape}
use Rattle.layout.proofs.layers_shaped.Given as goal

abbrev pub invariant-loop-k : goal.invariant-loop-k
invariant-loop-k l = AtLayer l.layers.tape.now l.k l.at × Passed (layer_test (runs_shape l.layers.tape.now) l.layers.tape.now) l.k
