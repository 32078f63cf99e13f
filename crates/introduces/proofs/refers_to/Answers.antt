use Rattle.std.proofs.Common.{◌+◌, ◌*◌, refl}
use Rattle.ruby_formats.specs.Asks.{format_names}
use Rattle.dependency.specs.Rows.{told_as, told_is}
use Rattle.introduces.specs.Linked.{refers_other, refers_target}
use Rattle.introduces.proofs.refers_to.Goals as goal

pub returns-then-not-is_referenced_format : goal.returns-then-not-is_referenced_format
returns-then-not-is_referenced_format c =
    told_is _ (refers_other _ _ c.args.reading.now.strings (c.args.reading.now.run.at + 49 * c.args.i) c.is_referenced_format.ensures c.if-not-is_referenced_format.true)

pub first_plain-requires-clause-names : goal.first_plain-requires-clause-names
first_plain-requires-clause-names c = format_names _ c.is_referenced_format.ensures c.if-not-is_referenced_format.false

pub returns : goal.returns
returns c =
    told_as c.is_target_base.ensures
    (refers_target _ _ c.args.reading.now.strings (c.args.reading.now.run.at + 49 * c.args.i) c.is_referenced_format.ensures c.if-not-is_referenced_format.false c.first_plain.ensures.plain refl)
