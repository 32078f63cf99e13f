use Rattle.std.proofs.Common.{◌*◌, take}
use mathlib.Core.List.{map, flatten}
use Rattle.lines.specs.Put.{Put}
use Rattle.listing.specs.Listing.{field_bytes}
use Rattle.listing.specs.Pieces.{mark_of}
use Rattle.listing.specs.Coded.{field_of}
use Rattle.listing.proofs.Listed.put_fields.Given as goal

abbrev pub invariant-loop-field : goal.invariant-loop-field
invariant-loop-field l =
    Put l.initial.line l.line (262191 * l.field-index) (flatten (map (field_bytes l.self.book.tape.now l.self.book.bytes.now (mark_of l.self.region) l.at l.n) (map field_of (take l.field-index l.field-items))))
