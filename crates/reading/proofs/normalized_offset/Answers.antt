use Rattle.reading.specs.Until.{summed_none, summed_image, summed_span, summed_more, summed_sums, summed_offset}
use mathlib.Core.Path.{◌≡◌, refl}
use native.Mathlib.Omega.{arith}
use Rattle.reading.proofs.normalized_offset.Goals as goal

pub loop-i-init : goal.loop-i-init
loop-i-init c =
    summed_none _ _ _

pub overflow_mul-p : goal.overflow_mul-p
overflow_mul-p c =
    omega (arith, c.nodes_until-n.ensures.within, c.requires.count_in_bounds, c.loop-i-test.true)

pub overflow_add-p : goal.overflow_add-p
overflow_add-p c =
    omega (arith, c.nodes_until-n.ensures.within, c.requires.count_in_bounds, c.loop-i-test.true)

pub image_length-requires : goal.image_length-requires
image_length-requires c =
    omega (arith, c.nodes_until-n.ensures.within, c.requires.count_in_bounds, c.loop-i-test.true)

pub overflow_add-before : goal.overflow_add-before
overflow_add-before c =
    omega (arith, summed_image c.loop-i.invariant c.loop-i-test.true c.image_length.ensures, c.nodes_until-n.ensures.within, c.requires.count_in_bounds)

pub span_length-requires : goal.span_length-requires
span_length-requires c =
    omega (arith, c.nodes_until-n.ensures.within, c.requires.count_in_bounds, c.loop-i-test.true)

pub overflow_add-before-in-loop-i : goal.overflow_add-before-in-loop-i
overflow_add-before-in-loop-i c =
    omega (arith, summed_span c.loop-i.invariant c.loop-i-test.true c.image_length.ensures c.span_length.ensures c.requires.in_order c.nodes_until-n.ensures)

pub loop-i-preserved : goal.loop-i-preserved
loop-i-preserved c =
    summed_more c.loop-i.invariant c.loop-i-test.true c.image_length.ensures c.span_length.ensures

pub drifted-requires : goal.drifted-requires
drifted-requires c =
    let done : c.loop-i.i ≡ c.nodes_until-n.result = omega (arith, c.loop-i.invariant.within) in
    let s = summed_sums c.loop-i.invariant done c.requires.in_order c.nodes_until-n.ensures in
    record {
      sums_bound = (omega (arith, s.0, c.nodes_until-n.ensures.within, c.requires.count_in_bounds), omega (arith, s.1));
      fits = rw (summed_offset c.loop-i.invariant done c.nodes_until-n.ensures refl) c.requires.fits;
    }

pub returns : goal.returns
returns c =
    summed_offset c.loop-i.invariant (omega (arith, c.loop-i.invariant.within)) c.nodes_until-n.ensures c.drifted.ensures
