use Rattle.std.proofs.Common.{rules}
use Prim.Native.Nat.{◌+◌}
use native.Mathlib.Omega.{arith}
use Rattle.model.specs.Bytes.{word_bytes}
use Rattle.facts.specs.Words.{word_length}
use Rattle.records.specs.Values.{body_of, source_node_of}
use Rattle.wire.specs.Overwrite.{Wrote, wrote_next}
use Rattle.span.specs.Values.{span_of}
use Rattle.put_records.specs.Written.{node_written, body_bytes, length_body, span_bytes, length_span}
use mathlib.Core.List.{[], ◌∷◌}
use lib.ListN.{length-append}
use Rattle.put_records.proofs.put_node.Goals as goal

pub returns : goal.returns
returns c =
    let n = c.args.n in
    let at = c.args.at in
    let w1 : Wrote c.args.out.now at (6 ∷ []) c.put_u8.new.out = record { is = c.put_u8.ensures } in
    let w2 = wrote_next w1 (at + 1) (n.class ∷ []) c.put_u8-2.ensures (omega arith) (omega (arith, c.requires)) in
    let w3 = wrote_next w2 (at + 2) (n.inline ∷ []) c.put_u8-3.ensures (omega arith) (omega (arith, c.requires)) in
    let w4 = wrote_next w3 (at + 3) (span_bytes (span_of n.source_span)) c.put_span.ensures (omega arith) (simp length_span (omega (arith, c.requires))) in
    let w5 = wrote_next w4 (at + 11) (word_bytes n.normalized_offset.0) c.put_u32.ensures (simp length_span (omega arith)) (simp word_length (omega (arith, c.requires))) in
    let w6 = wrote_next w5 (at + 15) (body_bytes (body_of n.body)) c.put_body.ensures (simp (length-append, length_span, word_length) (omega arith)) (simp length_body (omega (arith, c.requires))) in
    node_written c.args.out.now _ at (source_node_of n) (search rules) w6
