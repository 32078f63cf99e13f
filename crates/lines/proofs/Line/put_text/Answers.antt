use Rattle.std.proofs.Common.{ap, ◌+◌, ◌∙◌, length, take, arith}
use Rattle.wire.specs.Overwrite.{take_overwrite}
use Rattle.lines.specs.Put.{written}
use Rattle.lines.proofs.Line.put_text.Goals as goal

pub returns : goal.returns
unfolding written
returns c =
    record {
      holds = ap (take (c.args.self.now.len + length c.args.text.now)) c.copy_at.ensures ∙ take_overwrite _ _ _ (omega (arith, c.requires, c.args.self.now.inside));
      longer = omega arith;
      as_large = c.copy_at.auto.out;
    }
