use Rattle.dependency.specs.Asked.{asked_none}
use Rattle.tape.specs.Held.{held_runs}
use Rattle.ruby_formats.specs.Books.{book_depends, nodes_depend}
use Rattle.region.proofs.has_ruby_format_dependency.Goals as goal

pub asked_nodes-asked-requires : goal.asked_nodes-asked-requires
asked_nodes-asked-requires c = (held_runs c.args.book.now.held).0

pub returns-then-asked-eq0 : goal.returns-then-asked-eq0
returns-then-asked-eq0 c = book_depends c.args.book.now c.args.from.0 (asked_none _ _ _ _ c.asked_nodes-asked.ensures _ c.if-asked-eq0.true)

pub returns : goal.returns
returns c = nodes_depend c.of.ensures _ c.has_ruby_format_dependency.ensures
