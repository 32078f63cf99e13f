use Rattle.std.proofs.Common.{refl, arith}
use Rattle.ruby_formats.specs.Asks.{target_names}
use Rattle.dependency.specs.Rows.{told_as, told_is}
use Rattle.dependency.specs.Parts.{refers_other, refers_target, noted_few}
use Rattle.dependency.proofs.refers_among.Goals as goal

pub returns-then-not-asks_target : goal.returns-then-not-asks_target
returns-then-not-asks_target c = told_is _ (refers_other c.args.nodes.now.strings _ _ _ _ c.asks_target.ensures c.if-not-asks_target.true)

pub first_plain-requires-clause-names : goal.first_plain-requires-clause-names
first_plain-requires-clause-names c = target_names _ _ c.asks_target.ensures c.if-not-asks_target.false

pub invariant_of-bases-clause-few : goal.invariant_of-bases-clause-few
invariant_of-bases-clause-few c = omega (arith, c.min.ensures, c.requires.i_lt_count)

pub invariant_of-bases-clause-noted : goal.invariant_of-bases-clause-noted
invariant_of-bases-clause-noted c = noted_few _ _ _ _ _ _ c.requires.noted _ c.min.ensures

pub returns : goal.returns
returns c =
    told_as c.is_target_base.ensures (refers_target c.args.nodes.now.strings _ _ _ _ c.asks_target.ensures c.if-not-asks_target.false c.first_plain.ensures.plain c.min.ensures refl)
