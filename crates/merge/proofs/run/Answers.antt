use Rattle.std.proofs.Common.{refl, sym, ap, ◌∙◌, arith}
use Rattle.refusal.specs.Refusal.{checked}
use Rattle.lines.specs.Put.{put_as}
use Rattle.runs.specs.Line.{program_line}
use Rattle.merge.proofs.run.Goals as goal

pub returns-in-Ok : goal.returns-in-Ok
returns-in-Ok c = put_as c.put_line.ensures (omega arith) (program_line _ (ap checked (sym c.in-Ok.is) ∙ c.answer.ensures) refl)

pub returns-in-Err : goal.returns-in-Err
returns-in-Err c =
    put_as c.put_line-in-Err.ensures (omega arith) (program_line _ (ap checked (sym c.in-Err.is) ∙ c.answer.ensures) (rw c.from.ensures refl))
