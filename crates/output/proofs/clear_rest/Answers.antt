use Rattle.output.specs.Cleared.{cleared}
use Rattle.output.proofs.clear_rest.Goals as goal

pub returns : goal.returns
returns c = (
  cleared _ _ c.requires.0 c.zero_from.ensures,
  cleared _ _ c.requires.1 c.zero_from-2.ensures,
  c.zero_words.ensures,
)
