use Prim.Native.Nat.{◌+◌}
use native.Mathlib.Omega.{arith}
use Rattle.model.specs.Bytes.{word_bytes}
use Rattle.facts.specs.Words.{word_length}
use Rattle.wire.specs.Overwrite.{Wrote, wrote_next}
use Rattle.put_records.specs.Written.{body_bytes, length_words, words_bytes}
use mathlib.Core.List.{[], ◌∷◌}
use lib.ListN.{length-append}
use Rattle.put_records.proofs.put_body.Goals as goal

pub returns : goal.returns
unfolding body_bytes
returns c =
    let b = c.args.b in
    let at = c.args.at in
    let w1 : Wrote c.args.out.now at (b.kind ∷ []) c.put_u8.new.out = record { is = c.put_u8.ensures } in
    let w2 = wrote_next w1 (at + 1) (b.tag ∷ []) c.put_u8-2.ensures (omega arith) (omega (arith, c.requires)) in
    let w3 = wrote_next w2 (at + 2) (word_bytes b.plain1) c.put_u32.ensures (omega arith) (simp word_length (omega (arith, c.requires))) in
    let w4 = wrote_next w3 (at + 6) (word_bytes b.plain2) c.put_u32-2.ensures (simp word_length (omega arith)) (simp word_length (omega (arith, c.requires))) in
    let w5 = wrote_next w4 (at + 10) (words_bytes b.words) c.put_words.ensures (simp (length-append, word_length) (omega arith)) (simp length_words (omega (arith, c.requires))) in
    w5.is
