use Rattle.std.proofs.Common.{[], ◌∷◌, ◌+◌, arith}
use lib.ListN.{length-append}
use Rattle.model.specs.Bytes.{word_bytes}
use Rattle.facts.specs.Words.{word_length}
use Rattle.wire.specs.Overwrite.{Wrote, wrote_next}
use Rattle.span.specs.Values.{span_of}
use Rattle.records.specs.Values.{diagnostic_of}
use Rattle.put_records.specs.Written.{span_bytes, length_span, diagnostic_written}
use Rattle.put_records.proofs.put_diagnostic.Goals as goal

pub returns : goal.returns
returns c =
    let d = c.args.d in
    let at = c.args.at in
    let w1 : Wrote c.args.out.now at (9 ∷ []) c.put_u8.new.out = record { is = c.put_u8.ensures } in
    let w2 = wrote_next w1 (at + 1) (d.kind ∷ []) c.put_u8-2.ensures (omega arith) (omega (arith, c.requires)) in
    let w3 = wrote_next w2 (at + 2) (word_bytes d.rank) c.put_u32.ensures (omega arith) (simp word_length (omega (arith, c.requires))) in
    let w4 = wrote_next w3 (at + 6) (span_bytes (span_of d.span)) c.put_span.ensures (simp word_length (omega arith)) (simp length_span (omega (arith, c.requires))) in
    let w5 = wrote_next w4 (at + 14) (word_bytes d.plain) c.put_u32-2.ensures (simp (length-append, word_length, length_span) (omega arith)) (simp word_length (omega (arith, c.requires))) in
    diagnostic_written c.args.out.now _ at (diagnostic_of d) w5
