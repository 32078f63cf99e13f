use Rattle.std.proofs.Common.{refl, arith}
use Rattle.lines.specs.Put.{put_as, put_both}
use Rattle.runs.specs.Line.{accepted_line}
use Rattle.runs.proofs.put_accepted.Goals as goal

pub returns : goal.returns
unfolding accepted_line
returns c =
    put_as
    (put_both (put_both (put_both (put_both (put_both (put_both c.put_number.ensures c.put_number-2.ensures) c.put_number-3.ensures) c.put_number-4.ensures) c.put_number-5.ensures) c.put_number-6.ensures) c.put_text.ensures)
    (omega arith) (rw (c.from.ensures, c.from-2.ensures, c.from-3.ensures, c.from-4.ensures) refl)
