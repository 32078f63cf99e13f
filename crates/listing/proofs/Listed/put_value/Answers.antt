use Rattle.std.proofs.Common.{ap, refl, arith}
use Rattle.lines.specs.Put.{put_none, put_as}
use Rattle.lines.specs.Quoted.{quoted}
use Rattle.lines.specs.Text.{numbered}
use Rattle.listing.specs.Listing.{value_bytes}
use Rattle.listing.specs.Strings.{text_short}
use Rattle.listing.proofs.Listed.put_value.Goals as goal

pub returns-in-Nothing : goal.returns-in-Nothing
unfolding value_bytes
returns-in-Nothing c = rw c.in-Nothing.is (put_as put_none (omega arith) refl)

pub returns-in-Number : goal.returns-in-Number
unfolding value_bytes numbered
returns-in-Number c = rw c.in-Number.is (put_as c.put_number.ensures (omega arith) refl)

pub returns-in-Str : goal.returns-in-Str
unfolding value_bytes
returns-in-Str c = rw c.in-Str.is c.put_string.ensures

pub put_quoted-requires : goal.put_quoted-requires
put_quoted-requires c = omega (arith, c.requires, text_short c.args.self.now.book.bytes.now _ _ c.args.self.now.short c.between.ensures)

pub returns-in-Text : goal.returns-in-Text
unfolding value_bytes
returns-in-Text c =
    rw c.in-Text.is
    (put_as c.put_quoted.ensures (omega (arith, text_short c.args.self.now.book.bytes.now _ _ c.args.self.now.short c.between.ensures)) (ap quoted c.between.ensures))
