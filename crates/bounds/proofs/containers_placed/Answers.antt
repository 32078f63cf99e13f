use Rattle.std.proofs.Common.{ℕ, ◌+◌, ◌*◌, refl, ◌∙◌, rules}
use Rattle.model.specs.Tape.{record_at, operands_at, container_codec}
use Rattle.model.specs.WellFormed.{container_ok}
use Rattle.model.specs.Lookup.{diagnostics_allow_incremental}
use Rattle.wire.proofs.Ranges.{range_all}
use Rattle.records.specs.Runs.{run_all}
use Rattle.bounds.proofs.containers_placed.Goals as goal

pub returns : goal.returns
unfolding container_codec record_at operands_at diagnostics_allow_incremental
returns c =
    range_all _ _ _ _ (λ (i : ℕ). (container_ok c.args.normalized.0) (record_at container_codec c.args.tape.now (c.args.containers.at + 13 * i))) refl (λ x b q k. search rules) _ c.all.ensures.ran
    ∙ run_all container_codec (container_ok c.args.normalized.0) c.args.tape.now c.args.containers.at c.args.containers.count 13 refl
