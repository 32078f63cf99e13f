use mathlib.Core.Path.{ap, ◌∙◌}
use Rattle.model.specs.Bytes.{zeros}
use Rattle.region.proofs.choose_region.Goals as goal

pub returns : goal.returns
returns c =
    (c.region_of-found.ensures.0, c.zero_words.ensures ∙ ap zeros c.region_of-found.ensures.1)
