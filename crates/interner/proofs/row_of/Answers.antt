use Rattle.interner.specs.Row.{row_low, row_high}
use Rattle.interner.proofs.row_of.Goals as goal

pub returns-then-slots-le2048 : goal.returns-then-slots-le2048
returns-then-slots-le2048 c =
    row_low c.if-slots-le2048.true

pub returns-else-slots-le2048 : goal.returns-else-slots-le2048
returns-else-slots-le2048 c =
    row_high c.if-slots-le2048.false
