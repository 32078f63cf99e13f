use native.Mathlib.Omega.{arith}
use Rattle.model.specs.Region.{edit_of}
use Rattle.estimate.specs.Pricing.{sizes_ready, nodes_few, priced}
use Rattle.estimate.proofs.price_fitted.Goals as goal

pub reading_sizes-s-requires : goal.reading_sizes-s-requires
reading_sizes-s-requires c =
    sizes_ready c.args.m.now.fits

pub overflow_cast-m : goal.overflow_cast-m
overflow_cast-m c =
    omega (arith, nodes_few c.args.m.now.fits)

pub returns : goal.returns
unfolding edit_of
returns c =
    priced c.args.m.now.fits c.reading_sizes-s.ensures c.new_lengths-l.ensures c.price_by.ensures
