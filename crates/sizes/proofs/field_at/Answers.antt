use Rattle.sizes.specs.InPlace.{field_read}
use Rattle.sizes.proofs.field_at.Goals as goal

pub returns : goal.returns
returns c =
    field_read c.args.tape.now c.args.at c.args.j _ _ _ _ c.field_word-i.ensures.0 c.word_use.ensures c.body_word.ensures c.next_word.ensures
