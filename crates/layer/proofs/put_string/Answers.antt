use Rattle.facts.specs.Words.{word_length}
use Rattle.layer.specs.Lengths.{string_written}
use Rattle.wire.specs.Overwrite.{Wrote, wrote_next}
use Rattle.model.specs.Bytes.{word_bytes}
use mathlib.Core.List.{[], ◌∷◌}
use Prim.Native.Nat.{◌+◌}
use native.Mathlib.Omega.{arith}
use Rattle.layer.proofs.put_string.Goals as goal

pub returns : goal.returns
returns c =
    let w1 : Wrote c.args.out.now c.args.at (3 ∷ []) c.put_u8.new.out = record { is = c.put_u8.ensures } in
    string_written _ _ c.args.at c.args.n (wrote_next w1 (c.args.at + 1) (word_bytes c.args.n) c.put_u32.ensures (omega arith) (simp word_length (omega (arith, c.requires))))
