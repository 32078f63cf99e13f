use Rattle.std.proofs.Common.{refl, arith}
use Rattle.lines.specs.Put.{put_as}
use Rattle.runs.specs.Line.{line_of}
use Rattle.runs.proofs.put_line.Goals as goal

pub returns-in-Ok : goal.returns-in-Ok
unfolding line_of
returns-in-Ok c = rw c.in-Ok.is c.put_accepted.ensures

pub returns-in-Err : goal.returns-in-Err
unfolding line_of
returns-in-Err c = rw c.in-Err.is (put_as c.put_refused.ensures (omega arith) refl)
