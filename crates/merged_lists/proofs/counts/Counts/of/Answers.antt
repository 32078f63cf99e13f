use Rattle.std.proofs.Common.{refl}
use Rattle.merged_lists.specs.Fitted.{small_in}
use Rattle.merged_lists.proofs.counts.Counts.of.Goals as goal

pub invariant_of-result : goal.invariant_of-result
invariant_of-result c = record { small = rw c.kept_in.ensures (small_in c.args.m.now) }

pub returns : goal.returns
returns c = record { kept = c.kept_in.ensures; reading = refl }
