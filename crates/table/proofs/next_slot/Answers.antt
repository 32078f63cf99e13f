use Rattle.laws.specs.Slots.{next_round, next_in}
use native.Mathlib.Omega.{arith}
use Rattle.table.proofs.next_slot.Goals as goal

pub returns-then-at-n : goal.returns-then-at-n
returns-then-at-n c =
    (next_round _ _ c.if-at-n.true, omega arith)

pub returns-else-at-n : goal.returns-else-at-n
returns-else-at-n c =
    (let ne = c.if-at-n.false in (next_in _ _ (omega arith), omega arith))
