use Rattle.laws.specs.Utf8.{part_utf8}
use Rattle.std.proofs.Common.{◌∙◌}
use Rattle.texts.proofs.part_utf8.Goals as goal

pub returns : goal.returns
returns c =
    c.is_char_boundary.ensures ∙ part_utf8 _ _ _ c.requires.0 c.requires.1
