use Rattle.std.proofs.Common.{refl, arith}
use Rattle.dependency.specs.Noted.{key_short, key_long}
use Rattle.dependency.proofs.filter_key.Goals as goal

pub returns-then-n-le-LONG_STRING : goal.returns-then-n-le-LONG_STRING
returns-then-n-le-LONG_STRING c = key_short _ c.if-n-le-LONG_STRING.true c.fx_hash.ensures

pub returns : goal.returns
returns c = key_long _ (omega (arith, c.if-n-le-LONG_STRING.false)) refl c.fx_hash-front.ensures refl c.fx_hash-back.ensures refl refl
