use Rattle.texts.specs.Texts.{texts_fit, texts_inside, bytes_bad, text_bad, text_behind, normalized_bad, texts_behind, texts_strings}
use Rattle.std.proofs.Common.{sym, ◌∙◌, arith}
use Rattle.texts.proofs.texts_utf8.Goals as goal

pub returns-then-not-is_utf8 : goal.returns-then-not-is_utf8
returns-then-not-is_utf8 c =
    bytes_bad _ _ _ c.requires.0 c.requires.1 c.is_utf8.ensures c.if-not-is_utf8.true

pub part_utf8-requires : goal.part_utf8-requires
part_utf8-requires c =
    let fit = texts_inside _ _ _ c.requires.0 c.requires.1 in (omega (arith, fit), sym c.is_utf8.ensures ∙ c.if-not-is_utf8.false)

pub returns-then-not-part_utf8 : goal.returns-then-not-part_utf8
returns-then-not-part_utf8 c =
    text_bad _ _ _ c.requires.0 c.part_utf8.ensures c.if-not-part_utf8.true

pub part_utf8-requires-2 : goal.part_utf8-requires-2
part_utf8-requires-2 c =
    (texts_inside _ _ _ c.requires.0 c.requires.1, text_behind _ _ _ c.requires.0 c.part_utf8.ensures c.is_utf8.ensures c.if-not-is_utf8.false c.if-not-part_utf8.false)

pub returns-then-not-part_utf8-2 : goal.returns-then-not-part_utf8-2
returns-then-not-part_utf8-2 c =
    normalized_bad _ _ _ c.requires.0 c.part_utf8.ensures c.part_utf8-2.ensures c.if-not-part_utf8-2.true

pub layers_utf8-requires : goal.layers_utf8-requires
layers_utf8-requires c =
    (texts_fit _ _ _ c.requires.0 c.requires.1, texts_behind _ _ _ c.requires.0 c.part_utf8.ensures c.part_utf8-2.ensures c.is_utf8.ensures c.if-not-is_utf8.false c.if-not-part_utf8.false c.if-not-part_utf8-2.false)

pub returns : goal.returns
returns c =
    texts_strings _ _ _ c.requires.0 c.part_utf8.ensures c.part_utf8-2.ensures c.if-not-part_utf8.false c.if-not-part_utf8-2.false c.layers_utf8.ensures
