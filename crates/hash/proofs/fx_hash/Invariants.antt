use Rattle.std.proofs.Common.{◌≡◌, drop}
use Rattle.model.specs.Intern.{fx_from}
use Rattle.hash.proofs.fx_hash.Given as goal

abbrev pub invariant-loop-b : goal.invariant-loop-b
invariant-loop-b l = fx_from l.h (drop l.b-index l.bytes) ≡ fx_from 0 l.bytes
