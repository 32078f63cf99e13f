use Rattle.std.proofs.Common.{ap, ◌∙◌}
use Rattle.model.specs.Lists.{any, keep}
use Rattle.model.specs.Region.{is_ruby, is_referenced_format}
use Rattle.laws.specs.Nodes.{starts_at}
use Rattle.tape.specs.Held.{held_nodes, held_runs}
use Rattle.introduces.specs.Linked.{later_none, later_format}
use Rattle.introduces.proofs.ruby_for_later.Goals as goal

pub any_ruby-requires : goal.any_ruby-requires
any_ruby-requires c = (held_runs c.args.reading.now.held).0

pub any_format_from-requires : goal.any_format_from-requires
any_format_from-requires c = (held_runs c.args.book.now.held).0

pub returns-then-any_ruby : goal.returns-then-any_ruby
returns-then-any_ruby c =
    later_format _ _ _ (c.any_ruby.ensures ∙ ap (any is_ruby) (held_nodes c.args.reading.now.held)) c.if-any_ruby.true
    (c.any_format_from.ensures ∙ ap (λ ns. any is_referenced_format (keep (starts_at c.args.end.0) ns)) (held_nodes c.args.book.now.held))

pub returns-else-any_ruby : goal.returns-else-any_ruby
returns-else-any_ruby c = c.if-any_ruby.false ∙ later_none _ _ _ (c.any_ruby.ensures ∙ ap (any is_ruby) (held_nodes c.args.reading.now.held)) c.if-any_ruby.false
