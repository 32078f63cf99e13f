use Rattle.std.proofs.Common.{arith}
use Rattle.merged_texts.specs.Writing.{spliced_length, splice_wrote}
use Rattle.merged_texts.proofs.replaced.Replaced.put.Goals as goal

pub returns : goal.returns
returns c =
    let r = c.args.self.now in
    let n = spliced_length r.start r.end r.part.now r.whole.now r.inside.0 r.inside.1 in
    (splice_wrote _ _ _ _ r.part.now r.whole.now r.inside.0 r.inside.1 (omega (arith, c.requires, n)) c.copy_at.ensures c.copy_at-2.ensures c.copy_at-3.ensures, omega (arith, n))
