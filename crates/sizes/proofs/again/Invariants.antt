use Rattle.std.specs.Prelude.{◌≡◌, Some}
use Rattle.sizes.specs.Capped.{less}
use Rattle.sizes.specs.Again.{added_of, times}
use Rattle.sizes.proofs.again.Given as goal

abbrev pub invariant-loop-time : goal.invariant-loop-time
invariant-loop-time l = Some l.u ≡ less l.initial.u (times (added_of l.t) l._time)
