use Rattle.std.proofs.Common.{ℕ, ◌+◌, ◌*◌, refl, ◌∙◌, rules}
use Rattle.model.specs.Tape.{record_at, diagnostic_codec}
use Rattle.model.specs.Merge.{is_mark_at}
use Rattle.wire.proofs.Ranges.{range_any}
use Rattle.records.specs.Runs.{run_any}
use Rattle.reading.proofs.has_mark_at.Goals as goal

pub returns : goal.returns
unfolding diagnostic_codec
returns c =
    range_any _ _ _ _ (λ (i : ℕ). is_mark_at c.args.place.0 (record_at diagnostic_codec c.args.tape.now (c.args.diagnostics.at + 18 * i))) refl (λ x b q k. search rules) _ c.any.ensures.ran
    ∙ run_any diagnostic_codec (is_mark_at c.args.place.0) c.args.tape.now c.args.diagnostics.at c.args.diagnostics.count 18 refl
