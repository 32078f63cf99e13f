use Rattle.dependency.specs.Compared.{plain_some, plain_none}
use Rattle.dependency.proofs.is_plain.Goals as goal

pub returns-in-Some : goal.returns-in-Some
returns-in-Some c = plain_some c.args.strings.now _ _ c.in-Some.is c.is_string.ensures

pub returns-in-None : goal.returns-in-None
returns-in-None c = plain_none c.args.strings.now _ c.in-None.is
