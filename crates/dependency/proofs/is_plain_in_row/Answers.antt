use Rattle.dependency.specs.Rows.{among_some, among_nothing}
use Rattle.dependency.proofs.is_plain_in_row.Goals as goal

pub returns-in-Some : goal.returns-in-Some
returns-in-Some c = among_some _ _ _ c.in-Some.is c.resolve_str.ensures.resolved c.contains.ensures

pub returns-in-None : goal.returns-in-None
returns-in-None c = among_nothing _ _ c.in-None.is
