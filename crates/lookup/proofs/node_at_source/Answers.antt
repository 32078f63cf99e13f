use Rattle.refusal.specs.Refusal.{handed_on}
use Rattle.tape.specs.Held.{held_runs, held_in_order}
use Rattle.tape.specs.Opened.{book_held}
use Rattle.lookup.specs.Asked.{ask_refused, node_said}
use Rattle.lookup.proofs.node_at_source.Goals as goal

pub returns-in_err-nodes : goal.returns-in_err-nodes
returns-in_err-nodes c =
    rw (handed_on _ c.from_residual.ensures.1) (ask_refused _ _ c.in_err-nodes.ensures _)

pub node_at_source-requires : goal.node_at_source-requires
node_at_source-requires c =
    let a = book_held c.in_ok-nodes.ensures in record { count_in_bounds = (held_runs a).0; in_order = held_in_order a }

pub returns : goal.returns
returns c =
    node_said (book_held c.in_ok-nodes.ensures) _ c.node_at_source.ensures
