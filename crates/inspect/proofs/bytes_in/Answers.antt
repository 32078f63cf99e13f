use Rattle.inspect.specs.Answers.{bytes_part}
use Rattle.inspect.proofs.bytes_in.Goals as goal

pub returns : goal.returns
returns c = bytes_part _ c.u32_or_zero.ensures c.u32_or_zero-2.ensures c.between.ensures
