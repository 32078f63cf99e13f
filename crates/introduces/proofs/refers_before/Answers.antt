use Rattle.std.proofs.Common.{ap, ap₂, ◌∙◌, arith}
use Rattle.model.specs.Lists.{keep}
use Rattle.model.specs.Tape.{records_at, node_codec}
use Rattle.laws.specs.Nodes.{ends_by}
use Rattle.places.specs.declared.Run.{Run}
use Rattle.ruby_formats.specs.Sound.{sound_before}
use Rattle.tape.specs.Held.{held_in_order, held_nodes}
use Rattle.introduces.specs.Books.{refers_by}
use Rattle.introduces.proofs.refers_before.Goals as goal

pub nodes_until-requires-clause-in_order : goal.nodes_until-requires-clause-in_order
nodes_until-requires-clause-in_order c = held_in_order c.args.book.now.held

pub invariant_of-before : goal.invariant_of-before
invariant_of-before c =
    let count = ap (λ (r : Run). r.count) c.of-nodes.ensures.run in
    record { sound = sound_before c.of-nodes.result.sound (omega (arith, count, c.nodes_until.ensures.within)) }

pub returns-then-in_many_parts : goal.returns-then-in_many_parts
returns-then-in_many_parts c =
    let of = c.of-nodes.ensures in
    refers_by {ns = c.of-nodes.result} of c.of.ensures _
    (ap₂ (λ t (r : Run). records_at node_codec t r.at c.nodes_until.result) of.strings.tape of.run ∙ c.nodes_until.ensures.are ∙ ap (keep (ends_by c.args.start.0)) (held_nodes c.args.book.now.held))
    c.refers_by_own.ensures

pub invariant_of-before-2 : goal.invariant_of-before-2
invariant_of-before-2 c =
    let count = ap (λ (r : Run). r.count) c.of-nodes.ensures.run in
    record { sound = sound_before c.of-nodes.result.sound (omega (arith, count, c.nodes_until.ensures.within)) }

pub returns : goal.returns
returns c =
    let of = c.of-nodes.ensures in
    refers_by {ns = c.of-nodes.result} of c.of-2.ensures _
    (ap₂ (λ t (r : Run). records_at node_codec t r.at c.nodes_until.result) of.strings.tape of.run ∙ c.nodes_until.ensures.are ∙ ap (keep (ends_by c.args.start.0)) (held_nodes c.args.book.now.held))
    c.refers_by_words.ensures
