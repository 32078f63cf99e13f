use Rattle.std.proofs.Common.{◌≡◌, arith}
use Rattle.wire.specs.Overwrite.{wrote_none}
use Rattle.put_records.specs.Written.{bytes_until, until_more, words_written}
use Rattle.put_records.proofs.put_words.Goals as goal

pub loop-i-init : goal.loop-i-init
unfolding bytes_until
loop-i-init c = wrote_none _ _

pub put_u32-requires : goal.put_u32-requires
put_u32-requires c = omega (arith, c.requires, c.loop-i.auto.out, c.loop-i-test.true)

pub loop-i-preserved : goal.loop-i-preserved
loop-i-preserved c = until_more c.args.words _ c.loop-i.invariant c.put_u32.ensures (omega (arith, c.requires))

pub returns : goal.returns
returns c =
    let e : c.loop-i.i ≡ 6 = omega arith in
    words_written c.args.words (rw e at c.loop-i.invariant)
