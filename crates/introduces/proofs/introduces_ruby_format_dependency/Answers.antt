use Rattle.std.proofs.Common.{ap, ◌∙◌}
use Rattle.model.specs.Lists.{any, keep}
use Rattle.model.specs.Region.{is_referenced_format}
use Rattle.laws.specs.Nodes.{starts_at}
use Rattle.tape.specs.Held.{held_nodes, held_runs}
use Rattle.introduces.specs.Books.{introduces_later, introduces_none, introduces_refers}
use Rattle.introduces.proofs.introduces_ruby_format_dependency.Goals as goal

pub returns-then-ruby_for_later : goal.returns-then-ruby_for_later
returns-then-ruby_for_later c = introduces_later c.args.book.now c.args.reading.now _ c.ruby_for_later.ensures c.if-ruby_for_later.true

pub any_format_from-requires : goal.any_format_from-requires
any_format_from-requires c = (held_runs c.args.reading.now.held).0

pub returns-then-any_format_from : goal.returns-then-any_format_from
returns-then-any_format_from c = introduces_refers c.args.book.now c.args.reading.now _ c.ruby_for_later.ensures c.if-ruby_for_later.false c.refers_before.ensures

pub returns-else-any_format_from : goal.returns-else-any_format_from
returns-else-any_format_from c =
    c.if-any_format_from.false
    ∙ introduces_none c.args.book.now c.args.reading.now _ c.ruby_for_later.ensures c.if-ruby_for_later.false
    (c.any_format_from.ensures ∙ ap (λ ns. any is_referenced_format (keep (starts_at 0) ns)) (held_nodes c.args.reading.now.held)) c.if-any_format_from.false
