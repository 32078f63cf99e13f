use Rattle.model.specs.Merge.{padded}
use mathlib.Core.Path.{refl}
use Rattle.wire.specs.Overwrite.{wrote_padded}
use Rattle.copy.proofs.copy_padded.Goals as goal

pub returns : goal.returns
unfolding padded
returns c =
    wrote_padded (record { is = c.copy_at.ensures }) _ c.zero_from.ensures refl c.requires
