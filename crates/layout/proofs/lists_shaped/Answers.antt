use Rattle.places.specs.Walked.{fit_nodes, fit_pairs, fit_diagnostics}
use Rattle.layout.proofs.lists_shaped.Goals as goal

pub all_shaped-requires : goal.all_shaped-requires
all_shaped-requires c = fit_nodes c.requires

pub all_shaped-requires-then-all_shaped : goal.all_shaped-requires-then-all_shaped
all_shaped-requires-then-all_shaped c = fit_pairs c.requires

pub all_shaped-requires-then-all_shaped-2 : goal.all_shaped-requires-then-all_shaped-2
all_shaped-requires-then-all_shaped-2 c = fit_diagnostics c.requires
