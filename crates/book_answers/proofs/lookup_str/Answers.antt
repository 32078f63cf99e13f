use Rattle.lookup.specs.Strings.{str_shown}
use Rattle.answers.specs.Answers.{str_told}
use Rattle.book_answers.proofs.lookup_str.Goals as goal

pub returns : goal.returns
returns c =
    str_told _ c.from.ensures (str_shown _) c.lookup_str.ensures
