use Rattle.model.specs.Tape.{record_at, operands_at, node_codec}
use Rattle.bounds.specs.Walk.{padding_small, image_of}
use Prim.Native.Nat.{◌+◌}
use native.Mathlib.Omega.{arith}
use lib.ListN.{get_or}
use Rattle.bounds.proofs.image_length.Goals as goal

pub overflow_mul-result : goal.overflow_mul-result
overflow_mul-result c =
    rw c.standalone_padding.ensures (omega (arith, padding_small (get_or c.args.tape.now (c.args.at + 1) 0) (get_or c.args.tape.now (c.args.at + 2) 0)))

pub overflow_add-result : goal.overflow_add-result
overflow_add-result c =
    rw c.standalone_padding.ensures (omega (arith, padding_small (get_or c.args.tape.now (c.args.at + 1) 0) (get_or c.args.tape.now (c.args.at + 2) 0)))

pub returns : goal.returns
unfolding record_at operands_at node_codec
returns c =
    rw c.standalone_padding.ensures (image_of (record_at node_codec c.args.tape.now c.args.at))
