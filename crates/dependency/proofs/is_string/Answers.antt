use Rattle.std.proofs.Common.{ap, ◌∙◌}
use borrow.Author.Tests.{ne_eqb}
use Rattle.model.specs.Lists.{same}
use Rattle.dependency.specs.Compared.{other_length}
use Rattle.dependency.proofs.is_string.Goals as goal

pub returns-then-string_length-s : goal.returns-then-string_length-s
returns-then-string_length-s c = c.same.ensures ∙ ap (same c.args.s.now) c.resolve_str.ensures.resolved

pub returns-else-string_length-s : goal.returns-else-string_length-s
returns-else-string_length-s c =
    ne_eqb _ _ c.if-string_length-s.false ∙ other_length c.args.strings.now _ c.requires c.args.s.now c.string_length.ensures c.if-string_length-s.false
