use Rattle.std.proofs.Common.{Some, ap, ◌∙◌}
use Rattle.tape.specs.Held.{held_tape, held_runs}
use Rattle.sizes.specs.Calls.{reading_over, reading_answer}
use Rattle.sizes.proofs.reading_sizes.Goals as goal

pub invariant_of-w : goal.invariant_of-w
invariant_of-w c = record { fit = held_tape c.args.source.now.held }

pub nodes_left-requires : goal.nodes_left-requires
nodes_left-requires c = record { count_in_bounds = (held_runs c.args.source.now.held).0 }

pub returns-in_err-left : goal.returns-in_err-left
returns-in_err-left c = c.from_residual.ensures ∙ reading_over c.args.source.now.held c.args.room c.in_err-left.ensures

pub returns : goal.returns
returns c = ap Some c.taken.ensures ∙ reading_answer c.args.source.now.held c.args.room c.requires c.in_ok-left.ensures
