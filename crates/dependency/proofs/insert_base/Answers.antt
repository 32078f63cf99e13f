use Rattle.std.proofs.Common.{◌+◌, ◌*◌}
use Rattle.ruby_formats.specs.Asks.{ruby_names}
use Rattle.dependency.specs.Rows.{row_other, row_ruby}
use Rattle.dependency.proofs.insert_base.Goals as goal

pub returns-then-not-is_ruby : goal.returns-then-not-is_ruby
returns-then-not-is_ruby c = row_other c.args.nodes.now.strings (c.args.nodes.now.run.at + 49 * c.args.i) c.is_ruby.ensures c.if-not-is_ruby.true c.requires.row

pub first_plain-requires-clause-names : goal.first_plain-requires-clause-names
first_plain-requires-clause-names c = ruby_names _ c.is_ruby.ensures c.if-not-is_ruby.false

pub returns : goal.returns
returns c =
    row_ruby c.args.nodes.now.strings (c.args.nodes.now.run.at + 49 * c.args.i) c.is_ruby.ensures c.if-not-is_ruby.false c.first_plain.ensures.plain c.insert_id.ensures
