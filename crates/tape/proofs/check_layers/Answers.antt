use Rattle.std.proofs.Common.{refl, sym, ◌∙◌, arith}
use Rattle.layout.specs.Shaped.{misshapen, shaped_laid}
use Rattle.refusal.specs.declared.Refusal.TheVariants.{NotUtf8}
use Rattle.tape.specs.Numbers.{framed_places, framed_frame, book_none, texts_two, book_texts}
use Rattle.tape.specs.Opened.{laid_refused}
use Rattle.tape.proofs.check_layers.Goals as goal

pub shaped-requires : goal.shaped-requires
shaped-requires c = framed_places _ _ c.requires

pub returns-then-not-shaped : goal.returns-then-not-shaped
returns-then-not-shaped c =
    book_none _ _ (record { is = refl; unread = misshapen _ _ c.requires c.shaped.ensures c.if-not-shaped.true })

pub texts_utf8-requires : goal.texts_utf8-requires
texts_utf8-requires c = ((framed_places _ _ c.requires).is, framed_frame _ _ c.requires)

pub returns-then-not-texts_utf8 : goal.returns-then-not-texts_utf8
returns-then-not-texts_utf8 c =
    laid_refused (shaped_laid _ _ c.requires c.shaped.ensures c.if-not-shaped.false) NotUtf8
    (book_texts _ (texts_two _ (sym c.texts_utf8.ensures ∙ c.if-not-texts_utf8.true)) (omega arith))

pub returns : goal.returns
returns c =
    (shaped_laid _ _ c.requires c.shaped.ensures c.if-not-shaped.false, sym c.texts_utf8.ensures ∙ c.if-not-texts_utf8.false)
