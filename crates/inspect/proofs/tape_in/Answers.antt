use Rattle.inspect.specs.Answers.{tape_part}
use Rattle.inspect.proofs.tape_in.Goals as goal

pub returns : goal.returns
returns c = tape_part _ c.u32_or_zero.ensures c.between.ensures
