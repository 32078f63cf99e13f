use Rattle.std.proofs.Common.{ap, ◌∙◌}
use Rattle.answers.specs.Answers.{node_answer}
use Rattle.book_answers.proofs.node_at_source.Goals as goal

pub returns : goal.returns
returns c =
    c.from.ensures ∙ ap node_answer c.node_at_source.ensures
