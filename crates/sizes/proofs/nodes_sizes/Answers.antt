use Rattle.std.proofs.Common.{refl, ◌∙◌}
use Rattle.sizes.specs.InPlace.{node_from, nodes_from_lem}
use Rattle.sizes.specs.Capped.{taking_none, taking_more, taking_over, taking_all}
use Rattle.sizes.specs.Plain.{whole_inside}
use Rattle.sizes.proofs.nodes_sizes.Goals as goal

pub loop-i-init : goal.loop-i-init
loop-i-init c = (taking_none _ _ _ (nodes_from_lem c.args.w.now.tape.now c.args.run.at c.args.run.count c.args.w.now.st.now), c.requires.known, refl)

pub node_sizes-requires-clause-known : goal.node_sizes-requires-clause-known
node_sizes-requires-clause-known c =
    (c.loop-i.invariant.1, c.only_contents-own.ensures, whole_inside _ _ c.args.w.now.fit _ c.only_contents-own.ensures)

pub returns-in_err-u : goal.returns-in_err-u
unfolding node_from
returns-in_err-u c =
    c.from_residual.ensures ∙ taking_over c.loop-i.invariant.0 c.loop-i-test.true c.in_err-u.ensures.0

pub loop-i-preserved : goal.loop-i-preserved
unfolding node_from
loop-i-preserved c =
    (taking_more c.loop-i.invariant.0 c.loop-i-test.true c.in_ok-u.ensures.0, c.in_ok-u.ensures.1, c.node_sizes.auto.memo ∙ c.loop-i.invariant.2)

pub returns : goal.returns
returns c = taking_all c.loop-i.invariant.0 c.loop-i-test.false
