use Rattle.places.specs.Found.{walked_none, walked_more, walked_all, walked_rises, two_inside}
use mathlib.Core.Path.{sym, ◌∙◌}
use native.Mathlib.Omega.{arith}
use Rattle.places.proofs.all_layers.Goals as goal

pub loop-s-init : goal.loop-s-init
loop-s-init c =
    walked_none _ _

pub with_layer-s-requires : goal.with_layer-s-requires
with_layer-s-requires c =
    record {
      small = c.loop-s.invariant.small;
      end_in_bounds = ((two_inside c.args.tape.now c.loop-s.s.end (sym c.byte_at.ensures ∙ c.loop-s-test.true)), c.requires);
    }

pub loop-s-smaller : goal.loop-s-smaller
loop-s-smaller c =
    omega (arith, (two_inside c.args.tape.now c.loop-s.s.end (sym c.byte_at.ensures ∙ c.loop-s-test.true)), walked_rises _ _ _ _ c.with_layer-s.ensures)

pub loop-s-preserved : goal.loop-s-preserved
loop-s-preserved c =
    walked_more c.loop-s.invariant (sym c.byte_at.ensures ∙ c.loop-s-test.true) c.with_layer-s.ensures

pub returns : goal.returns
returns c =
    walked_all c.loop-s.invariant (λ e. c.loop-s-test.false (c.byte_at.ensures ∙ e))
