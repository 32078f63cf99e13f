use Rattle.region.specs.Passage.{region_part}
use Rattle.region.proofs.region_text.Goals as goal

pub returns : goal.returns
returns c =
    λ b e. region_part b _ e c.between.ensures
