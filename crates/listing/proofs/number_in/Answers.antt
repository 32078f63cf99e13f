use Rattle.std.proofs.Common.{refl, arith}
use Rattle.listing.specs.Walk.{number_none, number_read}
use Rattle.listing.proofs.number_in.Goals as goal

pub returns-then-command-le10 : goal.returns-then-command-le10
returns-then-command-le10 c = number_read _ _ c.byte_at.ensures (omega (arith, c.if-command-le10.true, c.from-command.ensures)) c.from-command.ensures refl

pub returns-else-command-le10 : goal.returns-else-command-le10
returns-else-command-le10 c = number_none _ _ c.byte_at.ensures (omega (arith, c.if-command-le10.false, c.from-command.ensures))
