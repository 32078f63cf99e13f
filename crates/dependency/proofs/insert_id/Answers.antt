use Rattle.dependency.specs.Rows.{row_some, row_none}
use Rattle.dependency.proofs.insert_id.Goals as goal

pub returns-in-Some : goal.returns-in-Some
returns-in-Some c = row_some _ c.in-Some.is c.insert.ensures

pub returns-in-None : goal.returns-in-None
returns-in-None c = row_none c.requires.row c.in-None.is
