use Rattle.std.proofs.Common.{◌+◌, ◌*◌, ◌∙◌}
use Rattle.ruby_formats.specs.Asks.{ruby_names}
use Rattle.dependency.specs.Compared.{base_other, base_ruby}
use Rattle.dependency.proofs.has_base.Goals as goal

pub first_plain-requires-clause-names : goal.first_plain-requires-clause-names
first_plain-requires-clause-names c = ruby_names _ c.is_ruby.ensures c.if-is_ruby.true

pub returns-then-is_ruby : goal.returns-then-is_ruby
returns-then-is_ruby c =
    base_ruby c.args.nodes.now.strings (c.args.nodes.now.run.at + 49 * c.args.i) _ c.is_ruby.ensures c.if-is_ruby.true c.first_plain.ensures.plain c.is_plain.ensures

pub returns-else-is_ruby : goal.returns-else-is_ruby
returns-else-is_ruby c =
    c.if-is_ruby.false ∙ base_other c.args.nodes.now.strings (c.args.nodes.now.run.at + 49 * c.args.i) _ c.is_ruby.ensures c.if-is_ruby.false
