use Rattle.std.proofs.Common.{refl, arith}
use Rattle.lines.specs.Put.{put_as, put_both}
use Rattle.listing.specs.Listing.{line_at}
use Rattle.listing.specs.Lines.{row_few}
use Rattle.listing.specs.Pieces.{marked_is}
use Rattle.listing.proofs.Listed.put_line.Goals as goal

pub put_fields-requires : goal.put_fields-requires
put_fields-requires c =
    record {
      room = omega (arith, c.requires.room);
      in_bounds = (c.requires.at_in_bounds, rw c.row_for-row.ensures (row_few _ _ _));
    }

pub returns : goal.returns
unfolding line_at
returns c = put_as (put_both c.put_fields.ensures c.put_text.ensures) (omega arith) (rw (c.row_for-row.ensures, c.byte_at-command.ensures, c.byte_at-second.ensures, c.is_some.ensures, marked_is c.args.self.now.region, c.number_in.ensures) refl)
