use Rattle.std.proofs.Common.{refl}
use Rattle.dependency.specs.Rows.{told_as, told_is}
use Rattle.dependency.specs.Compared.{target_some, target_none}
use Rattle.dependency.proofs.filter.Filter.is_target_base.Goals as goal

pub returns-in-Some : goal.returns-in-Some
returns-in-Some c = told_as c.is_base.ensures (target_some _ _ _ _ c.in-Some.is c.resolve_str.ensures.resolved refl)

pub returns-in-None : goal.returns-in-None
returns-in-None c = told_is _ (target_none _ _ _ c.in-None.is)
