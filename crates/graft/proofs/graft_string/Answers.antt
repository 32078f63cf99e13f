use Rattle.std.proofs.Common.{ap, sym, ◌∙◌, eqb-true}
use borrow.Author.Tests.{eqb-false}
use Rattle.records.specs.Uses.{use_number}
use Rattle.records.specs.UseNumbers.{number_same}
use Rattle.records.specs.declared.Use.TheVariants.{Str, OptStr}
use Rattle.graft.specs.Fields.{string_known, optional_known, id_string, id_optional, id_missing, id_none}
use Rattle.graft.specs.Answers.{told_nothing}
use Rattle.graft.proofs.graft_string.Goals as goal

pub graft_str-requires : goal.graft_str-requires
graft_str-requires c =
    record {
      indexed = c.requires.indexed;
      good = c.requires.good;
      id_lt_strings = (string_known _ _ _ 0 c.requires.id_value.0 (ap use_number c.in-Str.is), c.requires.id_value.1, c.requires.id_value.2);
    }

pub returns-in-Str : goal.returns-in-Str
returns-in-Str c =
    λ out. id_string _ _ (ap use_number c.in-Str.is) (c.graft_str.ensures out)

pub returns-then-eq : goal.returns-then-eq
returns-then-eq c =
    λ out. id_missing _ _ (told_nothing c.requires.good.0 c.requires.good.1 c.requires.has_room out) (ap use_number c.in-OptStr.is) (eqb-true _ _ (sym c.eq.ensures ∙ c.if-eq.true))

pub graft_str-requires-else-eq : goal.graft_str-requires-else-eq
graft_str-requires-else-eq c =
    record {
      indexed = c.requires.indexed;
      good = c.requires.good;
      id_lt_strings = (optional_known _ _ _ 0 c.requires.id_value.0 (ap use_number c.in-OptStr.is) (eqb-false _ _ (sym c.eq.ensures ∙ c.if-eq.false)), c.requires.id_value.1, c.requires.id_value.2);
    }

pub returns-else-eq : goal.returns-else-eq
returns-else-eq c =
    λ out. id_optional _ _ (ap use_number c.in-OptStr.is) (eqb-false _ _ (sym c.eq.ensures ∙ c.if-eq.false)) (c.graft_str-else-eq.ensures out)

pub returns-in_default : goal.returns-in_default
returns-in_default c =
    λ out. id_none _ _ (told_nothing c.requires.good.0 c.requires.good.1 c.requires.has_room out)
    (λ e. c.in_default.not-Str (number_same c.args.usage Str e)) (λ e. c.in_default.not-OptStr (number_same c.args.usage OptStr e))
