use Rattle.ruby_formats.specs.Nodes.{first_nodes, nodes_store}
use Rattle.sorted_ids.specs.Row.{sorted_cut}
use Rattle.dependency.specs.Rows.{rowed_cut}
use Rattle.introduces.specs.Rows.{rowed_any}
use Rattle.introduces.proofs.refers_by_row.Goals as goal

pub invariant_of-bases : goal.invariant_of-bases
invariant_of-bases c = record { sorted = sorted_cut c.row_of-m.ensures.row }

pub returns : goal.returns
returns c =
    let own = c.args.reading.now in
    rowed_any (record { holds = rowed_cut c.row_of-m.ensures }) (nodes_store own) (first_nodes own own.run.count) c.any_refers_to_row.ensures
