use mathlib.Core.Path.{refl}
use Rattle.model.specs.Tape.{record_at, operands_at, container_codec}
use Rattle.records.proofs.container_at.Goals as goal

pub returns : goal.returns
unfolding record_at operands_at container_codec
returns c =
    rw (c.u32_at.ensures, c.u32_at-2.ensures, c.u32_at-3.ensures) refl
