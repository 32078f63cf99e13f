use Rattle.std.proofs.Common.{◌∙◌}
use Rattle.refusal.specs.Refusal.{number_told}
use Rattle.book_answers.proofs.check_reading.Goals as goal

pub returns : goal.returns
returns c =
    c.number_answer.ensures ∙ number_told _ _ _ c.check_reading.ensures
