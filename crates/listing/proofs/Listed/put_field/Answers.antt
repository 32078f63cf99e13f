use Rattle.std.proofs.Common.{ap, arith}
use Rattle.model.specs.Tape.{places, book_at}
use Rattle.lines.specs.Put.{put_as, put_both}
use Rattle.listing.specs.Listing.{Item, item_bytes, field_bytes}
use Rattle.listing.specs.Coded.{shown_short}
use Rattle.listing.proofs.Listed.put_field.Goals as goal

pub put_text-requires : goal.put_text-requires
put_text-requires c = omega (arith, shown_short _ _ _ _ _ c.requires.in_bounds.1 c.item-value.ensures, c.requires.room)

pub put_value-requires : goal.put_value-requires
put_value-requires c = omega (arith, shown_short _ _ _ _ _ c.requires.in_bounds.1 c.item-value.ensures, c.requires.room, c.put_text.ensures.longer, c.put_text.ensures.as_large)

pub returns : goal.returns
unfolding field_bytes item_bytes
returns c =
    put_as (put_both c.put_text.ensures c.put_value.ensures) (omega (arith, shown_short _ _ _ _ _ c.requires.in_bounds.1 c.item-value.ensures))
    (ap (λ (x : Item). item_bytes (book_at c.args.self.now.book.tape.now (places c.args.self.now.book.tape.now) c.args.self.now.book.bytes.now) c.args.self.now.book.bytes.now x) c.item-value.ensures)
