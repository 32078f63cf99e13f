use Rattle.std.proofs.Common.{[], ◌∷◌, ◌+◌, arith}
use Rattle.wire.specs.Overwrite.{Wrote, wrote_next}
use Rattle.span.specs.Values.{span_of}
use Rattle.records.specs.Values.{pair_link_of}
use Rattle.put_records.specs.Written.{span_bytes, length_span, pair_written}
use Rattle.put_records.proofs.put_pair.Goals as goal

pub returns : goal.returns
returns c =
    let p = c.args.p in
    let at = c.args.at in
    let w1 : Wrote c.args.out.now at (7 ∷ []) c.put_u8.new.out = record { is = c.put_u8.ensures } in
    let w2 = wrote_next w1 (at + 1) (p.kind ∷ []) c.put_u8-2.ensures (omega arith) (omega (arith, c.requires)) in
    let w3 = wrote_next w2 (at + 2) (span_bytes (span_of p.opening)) c.put_span.ensures (omega arith) (simp length_span (omega (arith, c.requires))) in
    let w4 = wrote_next w3 (at + 10) (span_bytes (span_of p.closing)) c.put_span-2.ensures (simp length_span (omega arith)) (simp length_span (omega (arith, c.requires))) in
    pair_written c.args.out.now _ at (pair_link_of p) w4
