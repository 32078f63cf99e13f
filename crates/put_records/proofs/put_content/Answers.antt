use Rattle.model.specs.Bytes.{word_bytes}
use Rattle.facts.specs.Words.{word_length}
use Rattle.wire.specs.Overwrite.{Wrote, wrote_next}
use Rattle.put_records.specs.Written.{content_written}
use mathlib.Core.List.{[], ◌∷◌}
use Prim.Native.Nat.{◌+◌}
use native.Mathlib.Omega.{arith}
use Rattle.put_records.proofs.put_content.Goals as goal

pub returns : goal.returns
returns c =
    let o = c.args.c in
    let w1 : Wrote c.args.out.now c.args.at (4 ∷ []) c.put_u8.new.out = record { is = c.put_u8.ensures } in
    let w2 = wrote_next w1 (c.args.at + 1) (o.tag ∷ []) c.put_u8-2.ensures (omega arith) (omega (arith, c.requires)) in
    let w3 = wrote_next w2 (c.args.at + 2) (word_bytes o.first) c.put_u32.ensures (omega arith) (simp word_length (omega (arith, c.requires))) in
    let w4 = wrote_next w3 (c.args.at + 6) (word_bytes o.second) c.put_u32-2.ensures (simp word_length (omega arith)) (simp word_length (omega (arith, c.requires))) in
    content_written c.args.out.now _ c.args.at o.tag o.first o.second w4
