use Rattle.std.proofs.Common.{arith}
use Rattle.lines.specs.Put.{put_as, put_both}
use Rattle.inspect.specs.Answers.{passage_short, passage_put}
use Rattle.inspect.proofs.put_passage.Goals as goal

pub put_quoted-requires : goal.put_quoted-requires
put_quoted-requires c =
    let few = passage_short c.args.listed.now _ (c.region_text-text.ensures _ c.text.ensures) in
    let before = put_both c.put_number.ensures (put_both c.put_number-2.ensures c.put_text.ensures) in
    omega (arith, few, c.requires, before.longer, before.as_large)

pub put_text-requires-2 : goal.put_text-requires-2
put_text-requires-2 c =
    let few = passage_short c.args.listed.now _ (c.region_text-text.ensures _ c.text.ensures) in
    let before = put_both c.put_number.ensures (put_both c.put_number-2.ensures (put_both c.put_text.ensures c.put_quoted.ensures)) in
    omega (arith, few, c.requires, before.longer, before.as_large)

pub returns : goal.returns
returns c =
    let text = c.region_text-text.ensures _ c.text.ensures in
    let few = passage_short c.args.listed.now _ text in
    put_as (put_both c.put_number.ensures (put_both c.put_number-2.ensures (put_both c.put_text.ensures (put_both c.put_quoted.ensures c.put_text-2.ensures)))) (omega (arith, few))
    (passage_put _ _ c.from.ensures c.from-2.ensures text)
