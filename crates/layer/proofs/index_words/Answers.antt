use Rattle.strings.specs.Index.{index_written}
use Rattle.layer.specs.Walked.{index_there}
use native.Mathlib.Omega.{arith}
use Rattle.tape.specs.Held.{held_readable}
use Rattle.layer.proofs.index_words.Goals as goal

pub index_strings-requires : goal.index_strings-requires
index_strings-requires c = held_readable c.args.source.now.held (omega arith)

pub returns : goal.returns
returns c = index_there _ c.args.work.now c.requires.min_work_words_in_bounds (index_written _ _ c.index_strings.ensures)
