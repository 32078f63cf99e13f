use Rattle.model.specs.Region.{edit_of}
use Rattle.edit.specs.Same.{unchanged_here}
use Rattle.std.proofs.Common.{◌∙◌, sym}
use Rattle.edit.proofs.unchanged.Goals as goal

pub returns : goal.returns
unfolding edit_of
returns c = c.same.ensures ∙ sym (unchanged_here _ (edit_of _ _ _) c.requires.0 c.requires.1)
