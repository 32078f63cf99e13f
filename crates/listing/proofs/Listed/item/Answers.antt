use Rattle.std.proofs.Common.{ap, refl, arith}
use Rattle.model.specs.Offset.{Span}
use Rattle.listing.specs.Coded.{shows_of, sixth_word}
use Rattle.listing.specs.Listing.{shown}
use Rattle.listing.proofs.Listed.item.Goals as goal

pub returns-in-LabelOnly : goal.returns-in-LabelOnly
unfolding shown
returns-in-LabelOnly c = rw c.in-LabelOnly.is refl

pub returns-in-Ordinal : goal.returns-in-Ordinal
unfolding shown
returns-in-Ordinal c = rw c.in-Ordinal.is refl

pub returns-in-OwnString : goal.returns-in-OwnString
unfolding shown
returns-in-OwnString c = rw c.in-OwnString.is refl

pub returns-in-Byte : goal.returns-in-Byte
unfolding shown
returns-in-Byte c = rw (c.in-Byte.is, c.from.ensures, c.byte.ensures) refl

pub returns-in-Word : goal.returns-in-Word
unfolding shown
returns-in-Word c = rw (c.in-Word.is, c.word.ensures) refl

pub returns-in-Name : goal.returns-in-Name
unfolding shown
returns-in-Name c = rw (c.in-Name.is, c.label-name.ensures, c.from-in-Name.ensures, c.from-in-Name-2.ensures, c.byte-in-Name.ensures) refl

pub returns-in-StringId : goal.returns-in-StringId
unfolding shown
returns-in-StringId c = rw (c.in-StringId.is, c.word-in-StringId.ensures) refl

pub body_word-requires : goal.body_word-requires
body_word-requires c = (omega arith, omega (arith, sixth_word _ c.requires.1 (ap shows_of c.in-BodyWord.is), c.from-in-BodyWord-2.ensures))

pub returns-in-BodyWord : goal.returns-in-BodyWord
unfolding shown
returns-in-BodyWord c = rw (c.in-BodyWord.is, ← c.from-in-BodyWord.ensures, ← c.from-in-BodyWord-2.ensures) c.body_word.ensures

pub returns-in-RegionStart : goal.returns-in-RegionStart
unfolding shown
returns-in-RegionStart c = rw (c.in-RegionStart.is, ap (λ (r : Span). r.start) c.region.ensures) refl

pub returns-in-RegionEnd : goal.returns-in-RegionEnd
unfolding shown
returns-in-RegionEnd c = rw (c.in-RegionEnd.is, ap (λ (r : Span). r.end) c.region-in-RegionEnd.ensures) refl

pub returns-in-TextPart : goal.returns-in-TextPart
unfolding shown
returns-in-TextPart c = rw (c.in-TextPart.is, c.text_part.ensures) refl
