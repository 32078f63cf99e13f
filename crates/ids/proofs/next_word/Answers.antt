use Rattle.ids.specs.Tests.{no_seventh}
use Rattle.ids.proofs.next_word.Goals as goal

pub returns-then-i-ge5 : goal.returns-then-i-ge5
returns-then-i-ge5 c =
    no_seventh _ _ _ c.if-i-ge5.true c.requires.1
