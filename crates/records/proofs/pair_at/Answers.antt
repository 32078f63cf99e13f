use mathlib.Core.Path.{refl, ◌∙◌}
use Rattle.model.specs.Tape.{record_at, operands_at, pair_codec}
use Rattle.records.specs.Values.{opening_span, closing_span}
use Rattle.records.proofs.pair_at.Goals as goal

pub returns : goal.returns
unfolding record_at operands_at pair_codec
returns c = rw (c.span_at.ensures ∙ opening_span _ _, c.span_at-2.ensures ∙ closing_span _ _) refl
