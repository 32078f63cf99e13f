use Rattle.inspect.specs.Answers.{edit_read}
use Rattle.inspect.proofs.edit_in.Goals as goal

pub returns : goal.returns
returns c = edit_read _ _ c.u32_at.ensures c.u32_at-2.ensures c.u32_at-size.ensures c.between.ensures
