use Rattle.layer.specs.Answers.{left_sizes, left_limited, pools_refused, sizes_exact}
use Rattle.layer.specs.Walked.{source_sizes}
use Rattle.layer.specs.Layered.{source_adds, room_left}
use Rattle.layer.specs.Source.{source_few}
use Rattle.layer.proofs.graft_layer.Goals as goal

pub reading_sizes-requires : goal.reading_sizes-requires
reading_sizes-requires c =
    left_limited c.args.to.below c.room_left.ensures (source_few c.args.source.now.held)

pub returns-in_err-sizes : goal.returns-in_err-sizes
returns-in_err-sizes c =
    let to = c.args.to in
    let source = c.args.source.now in
    rw c.from_residual.ensures (pools_refused c.args.out.now c.args.strs.now to.at to.base to.below to.fits _ (source_sizes source.held to.below)
    (left_sizes to.below (source_adds source.tape.now source.bytes.now) c.room_left.ensures c.reading_sizes.ensures) c.in_err-sizes.was)

pub invariant_of-grafting-clause-exact : goal.invariant_of-grafting-clause-exact
invariant_of-grafting-clause-exact c =
    let to = c.args.to in
    let source = c.args.source.now in
    let adds = source_adds source.tape.now source.bytes.now in
    sizes_exact (room_left to.below) adds (left_sizes to.below adds c.room_left.ensures c.reading_sizes.ensures) c.in_ok-sizes.was
