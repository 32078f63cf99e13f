use Rattle.std.proofs.Common.{◌≡◌}
use Rattle.wire.specs.Loops.{any_up_to}
use Rattle.utf8.specs.Blocks.{odd_at}
use Rattle.utf8.proofs.odd_block.Given as goal

abbrev pub invariant-loop-i : goal.invariant-loop-i
invariant-loop-i l = l.bad ≡ any_up_to l.i (odd_at l.s l.from)
