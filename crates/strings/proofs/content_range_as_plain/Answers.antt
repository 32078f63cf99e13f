use Rattle.strings.specs.PlainContent.{range_other, range_inside, range_one}
use Rattle.strings.proofs.content_range_as_plain.Goals as goal

pub returns-then-len-ne1 : goal.returns-then-len-ne1
returns-then-len-ne1 c =
    range_other c.requires.of_tape c.args.start c.args.len c.requires.len_value c.if-len-ne1.true

pub content_at-requires : goal.content_at-requires
content_at-requires c =
    range_inside c.requires.of_tape c.args.start c.args.len c.requires.len_value c.if-len-ne1.false c.content_place-at.ensures

pub returns : goal.returns
returns c =
    range_one c.requires.of_tape c.args.start c.args.len c.requires.len_value c.if-len-ne1.false c.content_place-at.ensures c.content_at.ensures c.plain_of.ensures
