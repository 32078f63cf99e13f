use Rattle.layer.specs.Paired.{words_paired}
use Rattle.layer.proofs.pair_words.Goals as goal

pub returns : goal.returns
returns c = words_paired c.strings.ensures c.pair_strings.ensures.pairs
