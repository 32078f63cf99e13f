use Rattle.records.specs.Values.{word_place}
use mathlib.Core.Path.{◌∙◌}
use Rattle.records.proofs.body_word.Goals as goal

pub returns : goal.returns
returns c =
    c.u32_at.ensures ∙ word_place _ _ _ c.requires.1
