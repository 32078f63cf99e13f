use Rattle.std.proofs.Common.{ap, ◌∙◌}
use Rattle.answers.specs.Answers.{allowed_answer}
use Rattle.book_answers.proofs.diagnostics_allow_incremental.Goals as goal

pub returns : goal.returns
returns c =
    c.from.ensures ∙ ap allowed_answer c.diagnostics_allow_incremental.ensures
