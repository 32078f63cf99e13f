use Rattle.strings.specs.Starts.{lengths_in}
use Rattle.strings.specs.Index.{index_written}
use Rattle.strings.proofs.lent.Strings.write_index.Goals as goal

pub returns-clause-indexed : goal.returns-clause-indexed
returns-clause-indexed c = index_written (lengths_in c.args.self.now.tape.now) c.args.words.now c.index_strings.ensures
