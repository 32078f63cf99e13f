use Rattle.std.proofs.Common.{ap, ◌∙◌}
use Rattle.answers.specs.Answers.{region_answer}
use Rattle.exports.proofs.aozora_choose_region.Goals as goal

pub returns : goal.returns
returns c =
    (c.from.ensures ∙ ap region_answer c.choose_region.ensures.0, c.choose_region.ensures.1)
