use Rattle.std.proofs.Common.{◌+◌, ◌*◌, ◌∙◌}
use Rattle.ruby_formats.specs.Asks.{format_names}
use Rattle.introduces.specs.Rows.{row_other, row_target}
use Rattle.introduces.proofs.refers_to_row.Goals as goal

pub first_plain-requires-clause-names : goal.first_plain-requires-clause-names
first_plain-requires-clause-names c = format_names _ c.is_referenced_format.ensures c.if-is_referenced_format.true

pub returns-then-is_referenced_format : goal.returns-then-is_referenced_format
returns-then-is_referenced_format c =
    row_target _ c.args.reading.now.strings (c.args.reading.now.run.at + 49 * c.args.i) c.is_referenced_format.ensures c.if-is_referenced_format.true c.first_plain.ensures.plain c.is_plain_in_row.ensures

pub returns-else-is_referenced_format : goal.returns-else-is_referenced_format
returns-else-is_referenced_format c =
    c.if-is_referenced_format.false
    ∙ row_other _ c.args.reading.now.strings (c.args.reading.now.run.at + 49 * c.args.i) c.is_referenced_format.ensures c.if-is_referenced_format.false
