use Rattle.std.proofs.Common.{◌∙◌}
use Rattle.places.specs.Walked.{fit_nodes}
use Rattle.ids.specs.Whole.{ids_failed, ids_answer}
use Rattle.ids.proofs.ids_ok.Goals as goal

pub nodes_ids_ok-requires : goal.nodes_ids_ok-requires
nodes_ids_ok-requires c = fit_nodes c.requires.places_fit

pub returns-then-layers_ids_ok : goal.returns-then-layers_ids_ok
returns-then-layers_ids_ok c =
    ids_answer c.requires.of_tape c.requires.places_fit c.layers_ids_ok.ensures c.if-layers_ids_ok.true c.nodes_ids_ok.ensures

pub returns-else-layers_ids_ok : goal.returns-else-layers_ids_ok
returns-else-layers_ids_ok c = λ d. c.if-layers_ids_ok.false ∙ ids_failed c.requires.of_tape c.requires.places_fit c.layers_ids_ok.ensures c.if-layers_ids_ok.false d
