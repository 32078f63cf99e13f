use Rattle.texts.specs.Layers.{LayersLeft}
use Rattle.texts.proofs.layers_utf8.Given as goal

abbrev pub invariant-loop-k : goal.invariant-loop-k
invariant-loop-k l = LayersLeft l.layers.tape.now l.bytes l.from l.k l.at l.place
