use Rattle.refusal.specs.Refusal.{handed_on}
use Rattle.tape.specs.Numbers.{reading_none, framed_other}
use Rattle.tape.specs.Opened.{opens_reading}
use Rattle.tape.proofs.open_reading.Goals as goal

pub returns-in_err-p : goal.returns-in_err-p
returns-in_err-p c =
    rw (handed_on _ c.from_residual.ensures.1) (reading_none _ _ c.in_err-p.ensures)

pub returns-then-p-ne1 : goal.returns-then-p-ne1
returns-then-p-ne1 c =
    framed_other _ _ c.in_ok-p.ensures c.if-p-ne1.true

pub returns : goal.returns
returns c =
    opens_reading _ _ c.in_ok-p.ensures c.if-p-ne1.false _ c.opened.ensures
