use Rattle.dependency.specs.Parts.{noted_one}
use Rattle.dependency.proofs.note_first.Goals as goal

pub returns-then-i-n : goal.returns-then-i-n
returns-then-i-n c = noted_one _ _ _ _ _ _ c.requires.noted c.if-i-n.true c.note_ruby.ensures
