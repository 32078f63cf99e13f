use Rattle.std.proofs.Common.{[], ◌∷◌, ◌+◌, arith}
use lib.ListN.{length-append}
use Rattle.model.specs.Bytes.{word_bytes}
use Rattle.facts.specs.Words.{word_length}
use Rattle.wire.specs.Overwrite.{Wrote, wrote_next}
use Rattle.records.specs.Values.{container_pair_of}
use Rattle.put_records.specs.Written.{container_written}
use Rattle.put_records.proofs.put_container.Goals as goal

pub returns : goal.returns
returns c =
    let p = c.args.c in
    let at = c.args.at in
    let w1 : Wrote c.args.out.now at (8 ∷ []) c.put_u8.new.out = record { is = c.put_u8.ensures } in
    let w2 = wrote_next w1 (at + 1) (word_bytes p.plain) c.put_u32.ensures (omega arith) (simp word_length (omega (arith, c.requires))) in
    let w3 = wrote_next w2 (at + 5) (word_bytes p.opening.0) c.put_u32-2.ensures (simp word_length (omega arith)) (simp word_length (omega (arith, c.requires))) in
    let w4 = wrote_next w3 (at + 9) (word_bytes p.closing.0) c.put_u32-3.ensures (simp (length-append, word_length) (omega arith)) (simp word_length (omega (arith, c.requires))) in
    container_written c.args.out.now _ at (container_pair_of p) w4
