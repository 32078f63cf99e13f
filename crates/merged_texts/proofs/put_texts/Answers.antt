use Rattle.merged_texts.specs.Writing.{texts_wrote}
use Rattle.merged_texts.proofs.put_texts.Goals as goal

pub returns : goal.returns
returns c = texts_wrote _ _ _ _ c.requires c.put-normalized_to.ensures c.put-strings_to.ensures c.copy_at.ensures
