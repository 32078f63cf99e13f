use Rattle.model.specs.Tape.{record_at, node_codec}
use Rattle.bounds.specs.Walk.{walked_none, walked_more, walked_fails, walked_done, image_small, placed_facts}
use mathlib.Core.Path.{sym, ◌∙◌}
use Prim.Native.Nat.{◌+◌, ◌*◌}
use native.Mathlib.Omega.{arith}
use Rattle.bounds.proofs.nodes_placed.Goals as goal

pub loop-i-init : goal.loop-i-init
loop-i-init c =
    walked_none _ _ _ _

pub returns-then-not-node_placed : goal.returns-then-not-node_placed
returns-then-not-node_placed c =
    walked_fails c.loop-i.invariant c.loop-i-test.true (sym c.node_placed.ensures ∙ c.if-not-node_placed.true)

pub overflow_add-images : goal.overflow_add-images
overflow_add-images c =
    omega (arith, c.image_length-images.ensures, image_small (record_at node_codec c.args.tape.now (c.args.nodes.at + 49 * c.loop-i.i)))

pub overflow_add-spans : goal.overflow_add-spans
overflow_add-spans c =
    let f = placed_facts _ _ _ _ _ (sym c.node_placed.ensures ∙ c.if-not-node_placed.false) in omega (arith, c.span_length-spans.ensures, f.0, f.1, f.2, f.3)

pub loop-i-preserved : goal.loop-i-preserved
loop-i-preserved c =
    walked_more c.loop-i.invariant c.loop-i-test.true _ _ _ (sym c.node_placed.ensures ∙ c.if-not-node_placed.false) c.node_end-from.ensures c.image_length-images.ensures c.span_length-spans.ensures (omega arith)

pub returns : goal.returns
returns c =
    walked_done c.loop-i.invariant (omega arith)
