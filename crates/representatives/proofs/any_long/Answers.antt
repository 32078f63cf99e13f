use Rattle.std.proofs.Common.{rules, tests, refl, leb, get_or}
use Rattle.wire.proofs.Ranges.{range_any}
use Rattle.strings.specs.Starts.{lengths_in}
use Rattle.representatives.proofs.any_long.Goals as goal

pub returns : goal.returns
returns c = range_any _ _ _ _ (λ i. leb c.args.least (get_or (lengths_in c.args.tape.now) i 0)) refl (λ x b q k. search (rules, tests)) _ c.any.ensures.ran
