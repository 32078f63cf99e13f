use Rattle.std.proofs.Common.{ℕ, ◌+◌, ◌*◌, refl, ◌∙◌, rules}
use Rattle.model.specs.Tape.{record_at, operands_at, pair_codec}
use Rattle.model.specs.WellFormed.{pair_ok}
use Rattle.model.specs.Lookup.{diagnostics_allow_incremental}
use Rattle.wire.proofs.Ranges.{range_all}
use Rattle.records.specs.Runs.{run_all}
use Rattle.bounds.proofs.pairs_placed.Goals as goal

pub returns : goal.returns
unfolding pair_codec record_at operands_at diagnostics_allow_incremental
returns c =
    range_all _ _ _ _ (λ (i : ℕ). (pair_ok c.args.text.0) (record_at pair_codec c.args.tape.now (c.args.pairs.at + 18 * i))) refl (λ x b q k. search rules) _ c.all.ensures.ran
    ∙ run_all pair_codec (pair_ok c.args.text.0) c.args.tape.now c.args.pairs.at c.args.pairs.count 18 refl
