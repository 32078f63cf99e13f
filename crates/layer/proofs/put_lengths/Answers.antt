use Rattle.std.proofs.Common.{◌≡◌, arith}
use Rattle.layer.specs.Lengths.{lengths_none, lengths_more}
use Rattle.layer.proofs.put_lengths.Goals as goal

pub loop-i-init : goal.loop-i-init
loop-i-init c =
    lengths_none c.args.out.now c.args.at c.args.work.now

pub string_length-requires : goal.string_length-requires
string_length-requires c =
    record {
      k_in_bounds = omega (arith, c.requires.rising.room);
      k_bound = c.requires.rising.order c.loop-i.i (omega arith);
    }

pub loop-i-preserved : goal.loop-i-preserved
loop-i-preserved c =
    lengths_more c.args.out.now c.args.at c.args.work.now c.loop-i.i c.string_length.result _ c.string_length.ensures (omega arith) (omega arith) c.loop-i.invariant c.put_string.ensures

pub returns : goal.returns
returns c =
    let e : c.loop-i.i ≡ c.args.count = omega arith in rw e at c.loop-i.invariant
