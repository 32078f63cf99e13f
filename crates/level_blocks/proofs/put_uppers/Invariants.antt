use Rattle.level_blocks.specs.Blocks.{Risen, Kept}
use Rattle.level_blocks.proofs.put_uppers.Given as goal

abbrev pub invariant-loop-k : goal.invariant-loop-k
invariant-loop-k l = Risen l.table l.k × Kept l.initial.table l.table
