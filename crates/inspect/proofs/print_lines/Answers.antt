use Rattle.std.proofs.Common.{arith}
use Rattle.listing.specs.Walk.{counted_first, counted_next, next_later}
use Rattle.inspect.proofs.print_lines.Goals as goal

pub loop-c-init : goal.loop-c-init
loop-c-init g c = (c.requires, rw c.first_line-c.ensures counted_first)

pub loop-c-smaller : goal.loop-c-smaller
loop-c-smaller g c =
    let later = next_later _ c.loop-c.c c.next_line-c.ensures in
    omega (arith, later, c.loop-c-test.true)

pub loop-c-preserved : goal.loop-c-preserved
loop-c-preserved g c =
    (omega (arith, c.loop-c.invariant.0, c.print.ensures, c.put_line.ensures.as_large), counted_next _ c.loop-c.invariant.1 c.next_line-c.ensures)
