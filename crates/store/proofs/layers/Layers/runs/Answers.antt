use Rattle.std.proofs.Common.{sym, ◌∙◌, arith}
use Rattle.places.specs.Again.{at_inside}
use Rattle.places.specs.Walked.{nth_here}
use Rattle.store.specs.Stored.{stored_layers}
use Rattle.store.specs.Standing.{runs_there}
use Rattle.store.proofs.layers.Layers.runs.Goals as goal

pub layer_runs-requires : goal.layer_runs-requires
layer_runs-requires c =
    let s = c.args.self.now.stored c.in-Some.store c.in-Some.is in
    let n = stored_layers _ s.stored in
    (s.few, omega (arith, n, c.args.self.now.counted.0, c.requires.0))

pub returns-in-Some : goal.returns-in-Some
returns-in-Some c =
    let s = c.args.self.now.stored c.in-Some.store c.in-Some.is in
    let n = stored_layers _ s.stored in
    runs_there s (omega (arith, n, c.args.self.now.counted.0, c.requires.0)) c.layer_runs.ensures

pub next_layer-requires : goal.next_layer-requires
next_layer-requires c =
    at_inside c.requires.1 (omega (arith, c.args.self.now.counted.0, c.requires.0))

pub returns-in-None : goal.returns-in-None
returns-in-None c =
    c.next_layer.ensures ∙ sym (nth_here c.requires.1 (omega (arith, c.args.self.now.counted.0, c.requires.0)))
