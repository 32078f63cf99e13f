use Rattle.std.proofs.Common.{◌+◌, ◌*◌, ◌∙◌}
use Rattle.ruby_formats.specs.Asks.{target_names}
use Rattle.dependency.specs.Rows.{row_asks_not, row_target}
use Rattle.dependency.proofs.refers_to_row.Goals as goal

pub first_plain-requires-clause-names : goal.first_plain-requires-clause-names
first_plain-requires-clause-names c = target_names _ _ c.asks_target.ensures c.if-asks_target.true

pub returns-then-asks_target : goal.returns-then-asks_target
returns-then-asks_target c =
    row_target c.args.nodes.now.strings (c.args.nodes.now.run.at + 49 * c.args.i) _ _ c.asks_target.ensures c.if-asks_target.true c.first_plain.ensures.plain c.is_plain_in_row.ensures

pub returns-else-asks_target : goal.returns-else-asks_target
returns-else-asks_target c =
    c.if-asks_target.false ∙ row_asks_not c.args.nodes.now.strings (c.args.nodes.now.run.at + 49 * c.args.i) _ _ c.asks_target.ensures c.if-asks_target.false
