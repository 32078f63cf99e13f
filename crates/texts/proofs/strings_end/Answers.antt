use Rattle.std.proofs.Common.{arith}
use Rattle.texts.specs.Strings.{strings_none, strings_fit_lem, strings_bad, strings_more, strings_all}
use Rattle.texts.proofs.strings_end.Goals as goal

pub loop-i-init : goal.loop-i-init
loop-i-init c = strings_none _ _ _ _ _ c.requires.bytes_value

pub part_utf8-requires : goal.part_utf8-requires
part_utf8-requires c = (strings_fit_lem c.loop-i.invariant c.loop-i-test.true c.u32_at-n.ensures c.requires.count_in_bounds_2, c.loop-i.invariant.whole)

pub returns-then-not-part_utf8 : goal.returns-then-not-part_utf8
returns-then-not-part_utf8 c = strings_bad c.loop-i.invariant c.loop-i-test.true c.u32_at-n.ensures c.part_utf8.ensures c.if-not-part_utf8.true

pub overflow_add-place : goal.overflow_add-place
overflow_add-place c =
    let fit = strings_fit_lem c.loop-i.invariant c.loop-i-test.true c.u32_at-n.ensures c.requires.count_in_bounds_2 in omega (arith, fit)

pub loop-i-preserved : goal.loop-i-preserved
loop-i-preserved c = strings_more c.loop-i.invariant c.loop-i-test.true c.u32_at-n.ensures c.part_utf8.ensures c.if-not-part_utf8.false

pub returns : goal.returns
returns c = strings_all c.loop-i.invariant (omega arith)
