use Rattle.dependency.specs.Noted.{insert_some, insert_none}
use Rattle.dependency.proofs.insert_plain.Goals as goal

pub returns-in-Some : goal.returns-in-Some
returns-in-Some c = insert_some _ _ _ c.in-Some.is c.resolve_str.ensures.resolved c.filter_key.ensures c.insert.ensures

pub returns-in_default : goal.returns-in_default
returns-in_default c = insert_none _ _ c.in_default.is
