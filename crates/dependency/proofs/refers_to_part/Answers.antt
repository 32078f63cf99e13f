use Rattle.std.proofs.Common.{◌∙◌}
use Rattle.dependency.specs.Parts.{part_without}
use Rattle.dependency.proofs.refers_to_part.Goals as goal

pub returns-else-any_ruby : goal.returns-else-any_ruby
returns-else-any_ruby c = c.if-any_ruby.false ∙ part_without _ _ _ _ _ c.any_ruby.ensures c.if-any_ruby.false c.args.nodes.now.run.count
