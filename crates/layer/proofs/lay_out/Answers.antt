use Rattle.std.specs.Prelude.{◌*◌}
use Rattle.std.proofs.Common.{sym, arith}
use Rattle.model.specs.Tape.{records_bytes, string_codec}
use Rattle.layer.specs.LaidOut.{moved_up_lem}
use Rattle.layer.specs.Lengths.{lengths_width, new_lengths}
use Rattle.layer.proofs.lay_out.Goals as goal

pub returns : goal.returns
returns c =
    let w = lengths_width c.args.work.now c.args.count in
    let records = records_bytes string_codec (new_lengths c.args.work.now c.args.count) in
    moved_up_lem c.args.out.now c.args.at c.args.n records (omega (arith, w, c.requires.count_in_bounds)) (5 * c.args.count) 2 (sym w)
    c.move_up.ensures c.put_u8.ensures c.put_lengths.ensures
