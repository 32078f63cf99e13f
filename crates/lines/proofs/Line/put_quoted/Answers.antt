use Rattle.std.proofs.Common.{arith, refl}
use Rattle.lines.specs.Put.{put_both, put_as}
use Rattle.lines.specs.Quoted.{quoted}
use Rattle.lines.proofs.Line.put_quoted.Goals as goal

pub returns : goal.returns
unfolding quoted
returns c = put_as (put_both c.put_text.ensures (put_both c.put_escapes.ensures c.put_text-2.ensures)) (omega arith) refl
