use Rattle.sizes.specs.Known.{known_none}
use Rattle.sizes.specs.Capped.{inner_some, inner_contents}
use Rattle.sizes.specs.InPlace.{inner_adds, contents_add}
use Rattle.sizes.proofs.inner_contents.Goals as goal

pub contents_walk-requires : goal.contents_walk-requires
contents_walk-requires c =
    record { known = known_none c.args.w.now.tape.now c.args.w.now.st.now 1; count_in_bounds = c.requires.count_in_bounds }

pub unwrap-left-requires : goal.unwrap-left-requires
unwrap-left-requires c =
    let a = contents_add (inner_adds c.args.level c.args.w.now.tape.now c.args.w.now.st.now) c.args.w.now.tape.now c.args.w.now.st.now c.args.run.at c.args.run.count in
    inner_some a c.requires.count_bound.0 c.requires.count_bound.1 c.contents_walk.ensures.0

pub returns : goal.returns
returns c =
    let a = contents_add (inner_adds c.args.level c.args.w.now.tape.now c.args.w.now.st.now) c.args.w.now.tape.now c.args.w.now.st.now c.args.run.at c.args.run.count in
    inner_contents a c.requires.count_bound.0 c.requires.count_bound.1 c.contents_walk.ensures.0 c.unwrap-left.ensures
