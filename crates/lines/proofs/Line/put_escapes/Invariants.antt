use Rattle.std.proofs.Common.{◌*◌, take}
use Rattle.lines.specs.Put.{Put}
use Rattle.lines.specs.Quoted.{escapes}
use Rattle.lines.proofs.Line.put_escapes.Given as goal

abbrev pub invariant-loop-b : goal.invariant-loop-b
invariant-loop-b l = Put l.initial.self l.self (4 * l.b-index) (escapes (take l.b-index l.s))
