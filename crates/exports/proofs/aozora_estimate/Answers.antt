use Rattle.std.proofs.Common.{ap, ◌∙◌}
use Rattle.answers.specs.Answers.{price_answer}
use Rattle.exports.proofs.aozora_estimate.Goals as goal

pub returns : goal.returns
returns c =
    (c.from.ensures ∙ ap price_answer c.estimate.ensures.0, c.estimate.ensures.1)
