use Rattle.std.proofs.Common.{sym, arith}
use Rattle.span.specs.Shift.{clamp_back, clamp_under, clamped}
use Rattle.span.proofs.shift_clamp.Goals as goal

pub returns-in-Forward : goal.returns-in-Forward
returns-in-Forward c = rw (c.in-Forward.is, clamped) (omega arith)

pub returns-then-n-from : goal.returns-then-n-from
returns-then-n-from c = rw (c.in-Back.is, c.from-then-n-from.ensures) (sym (clamp_back _ _ (omega arith) (omega arith)))

pub returns-else-n-from : goal.returns-else-n-from
returns-else-n-from c = rw c.in-Back.is (sym (clamp_under _ _ (omega arith)))
