use Rattle.std.proofs.Common.{sym, ◌∙◌}
use Rattle.dependency.specs.Noted.{base_absent}
use Rattle.dependency.specs.Rows.{told_is, told_not}
use Rattle.dependency.proofs.filter.Filter.is_base.Goals as goal

pub returns-then-not-may_contain : goal.returns-then-not-may_contain
returns-then-not-may_contain c = told_is _ (base_absent c.args.self.now.noted _ c.filter_key.ensures c.may_contain.ensures c.if-not-may_contain.true)

pub returns-then-s-gt-LONG_STRING : goal.returns-then-s-gt-LONG_STRING
returns-then-s-gt-LONG_STRING c = told_not

pub returns-then-is_ruby_base : goal.returns-then-is_ruby_base
returns-then-is_ruby_base c = told_is _ (sym c.if-is_ruby_base.true ∙ c.is_ruby_base.ensures)

pub returns : goal.returns
returns c = told_is _ (sym c.if-is_ruby_base.false ∙ c.is_ruby_base.ensures)
