use Rattle.std.proofs.Common.{◌≡◌, ◌+◌, refl, ◌∙◌, arith}
use Rattle.ruby_formats.specs.Nodes.{nodes_store}
use Rattle.dependency.specs.Pieces.{sound_piece}
use Rattle.dependency.specs.Parts.{parts_none, parts_more, parts_found, parts_all}
use Rattle.dependency.proofs.refers_in_parts.Goals as goal

pub loop-i-init : goal.loop-i-init
loop-i-init c = (
  refl,
  (λ k e. (let z : k ≡ 0 = omega (arith, e) in
      rw z (parts_none (nodes_store c.args.nodes.now) c.args.from.0 c.args.nodes.now.strings.tape.now c.args.nodes.now.run.at c.args.nodes.now.run.count))),
  omega (arith, c.requires),
)

pub invariant_of-rest : goal.invariant_of-rest
invariant_of-rest c = record { sound = sound_piece c.args.nodes.now.sound c.loop-i.i _ (omega (arith, c.loop-i-test.true)) }

pub returns-then-refers_to_part : goal.returns-then-refers_to_part
returns-then-refers_to_part c =
    parts_found (nodes_store c.args.nodes.now) c.args.from.0 c.args.nodes.now.strings.tape.now
    c.args.nodes.now.run.at c.args.nodes.now.run.count c.loop-i.i _ (omega (arith, c.loop-i-test.true)) c.refers_to_part.ensures c.if-refers_to_part.true

pub loop-i-preserved : goal.loop-i-preserved
loop-i-preserved c = (
  c.refers_to_part.auto.words ∙ c.loop-i.invariant.0,
  (λ k e. (let s : k ≡ c.loop-i.i + c.min-n.result = omega (arith, e, c.min-n.ensures, c.loop-i-test.true) in
      rw s (parts_more (nodes_store c.args.nodes.now) c.args.from.0 c.args.nodes.now.strings.tape.now
      c.args.nodes.now.run.at c.args.nodes.now.run.count c.loop-i.i _ (omega (arith, c.loop-i-test.true)) c.refers_to_part.ensures
      (c.loop-i.invariant.1 c.loop-i.i (omega (arith, c.loop-i-test.true))) c.if-refers_to_part.false))),
  c.loop-i.invariant.2,
)

pub returns-else-refers_to_part : goal.returns-else-refers_to_part
returns-else-refers_to_part c =
    let all = parts_more (nodes_store c.args.nodes.now) c.args.from.0 c.args.nodes.now.strings.tape.now
    c.args.nodes.now.run.at c.args.nodes.now.run.count c.loop-i.i _ (omega (arith, c.loop-i-test.true)) c.refers_to_part.ensures
    (c.loop-i.invariant.1 c.loop-i.i (omega (arith, c.loop-i-test.true))) c.if-refers_to_part.false in
    parts_all (nodes_store c.args.nodes.now) c.args.from.0 c.args.nodes.now.strings.tape.now c.args.nodes.now.run.at c.args.nodes.now.run.count
    _ (omega (arith, c.min-n.ensures, c.loop-i-test.true)) all

pub returns : goal.returns
returns c =
    parts_all (nodes_store c.args.nodes.now) c.args.from.0 c.args.nodes.now.strings.tape.now c.args.nodes.now.run.at c.args.nodes.now.run.count
    _ refl (c.loop-i.invariant.1 c.args.nodes.now.run.count (omega (arith, c.loop-i-test.false)))
