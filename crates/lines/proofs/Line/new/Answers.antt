use Rattle.std.proofs.Common.{refl, arith}
use Rattle.lines.specs.Put.{written}
use Rattle.lines.proofs.Line.new.Goals as goal

pub returns : goal.returns
unfolding written
returns c = (refl, omega arith)
