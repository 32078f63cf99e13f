use Rattle.std.proofs.Common.{◌+◌, ◌*◌, rules, tests, refl, ◌∙◌}
use Rattle.model.specs.Tape.{record_at, segment_codec}
use Rattle.wire.proofs.Ranges.{range_all}
use Rattle.records.specs.Runs.{run_all}
use Rattle.level_blocks.specs.Level.{below}
use Rattle.level_blocks.proofs.levels_below.Goals as goal

pub returns : goal.returns
unfolding segment_codec
returns c =
    range_all _ _ _ _ (λ i. below c.args.level (record_at segment_codec c.args.tape.now (c.args.at + 37 * i))) refl (λ x b q k. search (rules, tests)) _ c.all.ensures.ran
    ∙ run_all segment_codec (below c.args.level) c.args.tape.now c.args.at c.args.count 37 refl
