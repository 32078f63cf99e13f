-- The state stays good.
use Rattle.std.proofs.Common.{◌≡◌, length}
use Rattle.interner.specs.State.{Good}
use Rattle.intern_run.proofs.each.Given as goal

abbrev pub invariant-loop-part : goal.invariant-loop-part
invariant-loop-part l = (length l.work ≡ length l.initial.work) × (length l.strs ≡ length l.initial.strs) × Good l.work l.strs l.st
