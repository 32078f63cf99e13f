use Rattle.std.proofs.Common.{refl, ◌≤◌, arith}
use Rattle.listing.specs.Table.{sizes}
use Rattle.listing.specs.Walk.{number_read, next_none, next_read}
use Rattle.listing.proofs.next_line.Goals as goal

pub returns-then-command-le10 : goal.returns-then-command-le10
unfolding sizes
returns-then-command-le10 c =
    let few : c.byte_at.result ≤ 10 = omega (arith, c.if-command-le10.true, c.from-command.ensures) in
    next_read _ _ c.byte_at.ensures few c.from-command.ensures (number_read _ _ c.byte_at.ensures few c.from-command.ensures refl) refl

pub returns-else-command-le10 : goal.returns-else-command-le10
returns-else-command-le10 c = next_none _ _ c.byte_at.ensures (omega (arith, c.if-command-le10.false, c.from-command.ensures))
