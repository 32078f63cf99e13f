use Rattle.std.proofs.Common.{rules}
use Prim.Native.Nat.{◌+◌}
use native.Mathlib.Omega.{arith}
use Rattle.records.specs.Values.{body_of, segment_of}
use Rattle.wire.specs.Overwrite.{Wrote, wrote_next}
use Rattle.put_records.specs.Written.{segment_written, body_bytes, length_body}
use mathlib.Core.List.{[], ◌∷◌}
use Rattle.put_records.proofs.put_segment.Goals as goal

pub returns : goal.returns
returns c =
    let s = c.args.s in
    let at = c.args.at in
    let w1 : Wrote c.args.out.now at (5 ∷ []) c.put_u8.new.out = record { is = c.put_u8.ensures } in
    let w2 = wrote_next w1 (at + 1) (s.tag ∷ []) c.put_u8-2.ensures (omega arith) (omega (arith, c.requires)) in
    let w3 = wrote_next w2 (at + 2) (s.level ∷ []) c.put_u8-3.ensures (omega arith) (omega (arith, c.requires)) in
    let w4 = wrote_next w3 (at + 3) (body_bytes (body_of s.body)) c.put_body.ensures (omega arith) (simp length_body (omega (arith, c.requires))) in
    segment_written c.args.out.now _ at (segment_of s) (search rules) w4
