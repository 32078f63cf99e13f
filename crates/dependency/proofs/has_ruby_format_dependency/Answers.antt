use Rattle.std.proofs.Common.{◌+◌, length, arith}
use Rattle.ruby_formats.specs.Sound.{sound_before}
use Rattle.dependency.specs.Asked.{asked_inside, asked_depends, asked_none}
use Rattle.dependency.specs.Words.{lent_enough}
use Rattle.dependency.proofs.has_ruby_format_dependency.Goals as goal

pub returns-then-n-eq0 : goal.returns-then-n-eq0
returns-then-n-eq0 c = asked_none _ _ _ _ c.asked_nodes-n.ensures _ c.if-n-eq0.true

pub invariant_of-asked : goal.invariant_of-asked
invariant_of-asked c = record { sound = sound_before c.args.nodes.now.sound (asked_inside _ _ _ _ c.asked_nodes-n.ensures) }

pub invariant_of-asked-2 : goal.invariant_of-asked-2
invariant_of-asked-2 c = record { sound = sound_before c.args.nodes.now.sound (asked_inside _ _ _ _ c.asked_nodes-n.ensures) }

pub overflow_add-n : goal.overflow_add-n
overflow_add-n c =
    let sound = c.args.nodes.now.sound in
    let a = asked_inside _ _ _ _ c.asked_nodes-n.ensures in
    omega (arith, a, sound.inside, sound.small)

pub returns-then-in_many_parts : goal.returns-then-in_many_parts
returns-then-in_many_parts c = asked_depends _ _ _ _ c.asked_nodes-n.ensures _ c.refers_by_own.ensures

pub refers_by_words-requires : goal.refers_by_words-requires
refers_by_words-requires c =
    let enough = lent_enough (length c.args.words.now) (c.asked_nodes-n.result + 1) c.in_many_parts.ensures c.if-in_many_parts.false in
    omega (arith, enough, c.if-n-eq0.false)

pub returns : goal.returns
returns c = asked_depends _ _ _ _ c.asked_nodes-n.ensures _ c.refers_by_words.ensures
