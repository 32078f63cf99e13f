use Rattle.std.proofs.Common.{arith, ◌∙◌}
use Rattle.model.specs.Bytes.{word_bytes}
use Rattle.wire.proofs.Part.{written}
use Rattle.wire.proofs.put_u32.Goals as goal

pub returns : goal.returns
unfolding word_bytes
returns c = written _ _ _ _ _ (c.copy_from_slice.ensures.after ∙ c.to_le_bytes.ensures) (omega arith) (omega arith)
