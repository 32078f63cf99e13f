use Rattle.level_blocks.specs.Blocks.{Greatest}
use Rattle.level_blocks.proofs.greatest.Given as goal

abbrev pub invariant-loop-i : goal.invariant-loop-i
invariant-loop-i l = Greatest l.table l.from l.i l.m
