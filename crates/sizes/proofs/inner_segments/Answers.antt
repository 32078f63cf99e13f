use Rattle.sizes.specs.Known.{known_none}
use Rattle.sizes.specs.Capped.{inner_some, inner_segments}
use Rattle.sizes.specs.InPlace.{inner_adds, segments_add}
use Rattle.sizes.proofs.inner_segments.Goals as goal

pub segments_walk-requires : goal.segments_walk-requires
segments_walk-requires c =
    record { known = known_none c.args.w.now.tape.now c.args.w.now.st.now 1; count_in_bounds = c.requires.count_in_bounds }

pub unwrap-left-requires : goal.unwrap-left-requires
unwrap-left-requires c =
    let a = segments_add (inner_adds c.args.level c.args.w.now.tape.now c.args.w.now.st.now) c.args.w.now.tape.now c.args.run.at c.args.run.count in
    inner_some a c.requires.count_bound.0 c.requires.count_bound.1 c.segments_walk.ensures.0

pub returns : goal.returns
returns c =
    let a = segments_add (inner_adds c.args.level c.args.w.now.tape.now c.args.w.now.st.now) c.args.w.now.tape.now c.args.run.at c.args.run.count in
    inner_segments a c.requires.count_bound.0 c.requires.count_bound.1 c.segments_walk.ensures.0 c.unwrap-left.ensures
