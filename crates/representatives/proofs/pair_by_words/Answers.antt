use Rattle.strings.specs.Shown.{by_index}
use Rattle.representatives.proofs.pair_by_words.Goals as goal

pub invariant_of-indexed : goal.invariant_of-indexed
invariant_of-indexed c = record { resolvable = by_index c.args.strings.now.resolvable c.write_index.ensures.indexed }
