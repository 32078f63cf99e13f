use lib.Seq.{length-take-le}
use Rattle.merged_texts.specs.Writing.{head_wrote}
use Prim.Native.Nat.{◌-◌}
use native.Mathlib.Omega.{arith}
use lib.ListN.{drop, length-drop}
use Rattle.merged_texts.proofs.put_head.Goals as goal

pub returns : goal.returns
returns c =
    let n = length-take-le (c.args.nodes_at - 9) (drop 9 c.args.tape.now) (rw (length-drop) (omega (arith, c.requires))) in
    head_wrote _ _ _ _ (omega (arith, n, c.requires)) c.put_u8.ensures c.put_u32.ensures c.put_u32-2.ensures c.copy_at.ensures
