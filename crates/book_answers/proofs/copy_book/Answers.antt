use Rattle.std.proofs.Common.{ap, ◌∙◌}
use Rattle.answers.specs.Answers.{copy_answer}
use Rattle.book_answers.proofs.copy_book.Goals as goal

pub returns : goal.returns
returns c =
    (c.from.ensures ∙ ap copy_answer c.copy_book.ensures.0, c.copy_book.ensures.1, c.copy_book.ensures.2)
