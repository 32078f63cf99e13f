use Rattle.std.proofs.Common.{◌+◌, arith}
use Rattle.model.specs.Bytes.{word_bytes}
use Rattle.facts.specs.Words.{word_length}
use Rattle.wire.specs.Overwrite.{Wrote, wrote_next}
use Rattle.put_records.specs.Written.{span_bytes}
use Rattle.put_records.proofs.put_span.Goals as goal

pub returns : goal.returns
unfolding span_bytes
returns c =
    let at = c.args.at in
    let w1 : Wrote c.args.out.now at (word_bytes c.args.s.start.0) c.put_u32.new.out = record { is = c.put_u32.ensures } in
    let w2 = wrote_next w1 (at + 4) (word_bytes c.args.s.end.0) c.put_u32-2.ensures (simp word_length (omega arith)) (simp word_length (omega (arith, c.requires))) in
    w2.is
