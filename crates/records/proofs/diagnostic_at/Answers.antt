use mathlib.Core.Path.{refl, ◌∙◌}
use Rattle.model.specs.Tape.{record_at, operands_at, diagnostic_codec}
use Rattle.records.specs.Values.{diagnostic_span}
use Rattle.records.proofs.diagnostic_at.Goals as goal

pub returns : goal.returns
unfolding record_at operands_at diagnostic_codec
returns c = rw (c.u32_at.ensures, c.u32_at-2.ensures, c.span_at.ensures ∙ diagnostic_span _ _) refl
