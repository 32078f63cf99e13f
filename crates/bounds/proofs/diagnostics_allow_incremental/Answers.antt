use Rattle.std.proofs.Common.{ℕ, ◌+◌, ◌*◌, refl, ◌∙◌, rules}
use Rattle.model.specs.Tape.{record_at, operands_at, diagnostic_codec}
use Rattle.model.specs.Lookup.{diagnostics_allow_incremental}
use Rattle.wire.proofs.Ranges.{range_all}
use Rattle.records.specs.Runs.{run_all}
use Rattle.bounds.specs.Incremental.{allows_incremental}
use Rattle.bounds.proofs.diagnostics_allow_incremental.Goals as goal

pub returns : goal.returns
unfolding diagnostic_codec record_at operands_at diagnostics_allow_incremental
returns c =
    range_all _ _ _ _ (λ (i : ℕ). allows_incremental (record_at diagnostic_codec c.args.tape.now (c.args.diagnostics.at + 18 * i))) refl (λ x b q k. search rules) _ c.all.ensures.ran
    ∙ run_all diagnostic_codec allows_incremental c.args.tape.now c.args.diagnostics.at c.args.diagnostics.count 18 refl
