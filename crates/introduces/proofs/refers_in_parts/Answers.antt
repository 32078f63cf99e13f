use Rattle.std.proofs.Common.{◌≡◌, ◌+◌, refl, ◌∙◌, arith}
use Rattle.dependency.specs.Pieces.{sound_piece}
use Rattle.introduces.specs.Pieces.{unreferred_none, unreferred_more, unreferred_all, referred_here}
use Rattle.introduces.proofs.refers_in_parts.Goals as goal

pub loop-i-init : goal.loop-i-init
loop-i-init c = (refl, (λ k e. (let z : k ≡ 0 = omega (arith, e) in rw z (unreferred_none _ _ _ _ _))), omega (arith, c.requires))

pub invariant_of-part : goal.invariant_of-part
invariant_of-part c = record { sound = sound_piece c.args.nodes.now.sound c.loop-i.i _ (omega (arith, c.min-n.ensures, c.loop-i-test.true)) }

pub returns-then-refers_to_some : goal.returns-then-refers_to_some
returns-then-refers_to_some c =
    referred_here (c.loop-i.invariant.1 c.loop-i.i (omega (arith, c.loop-i-test.true))) _ c.refers_to_some.ensures c.if-refers_to_some.true _ (omega (arith, c.min-n.ensures, c.loop-i-test.true))

pub loop-i-preserved : goal.loop-i-preserved
loop-i-preserved c = (
  c.refers_to_some.auto.words ∙ c.loop-i.invariant.0,
  (λ k e. (let s : k ≡ c.loop-i.i + c.min-n.result = omega (arith, e, c.min-n.ensures, c.loop-i-test.true) in
      rw s (unreferred_more (c.loop-i.invariant.1 c.loop-i.i (omega (arith, c.loop-i-test.true))) _ c.refers_to_some.ensures c.if-refers_to_some.false))),
  c.loop-i.invariant.2,
)

pub returns-else-refers_to_some : goal.returns-else-refers_to_some
returns-else-refers_to_some c =
    unreferred_all (unreferred_more (c.loop-i.invariant.1 c.loop-i.i (omega (arith, c.loop-i-test.true))) _ c.refers_to_some.ensures c.if-refers_to_some.false)
    _ (omega (arith, c.min-n.ensures, c.loop-i-test.true))

pub returns : goal.returns
returns c = unreferred_all (c.loop-i.invariant.1 c.args.nodes.now.run.count (omega (arith, c.loop-i-test.false))) _ refl
