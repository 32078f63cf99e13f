use Rattle.sizes.specs.Known.{known_none}
use Rattle.sizes.proofs.nodes_left.Goals as goal

pub nodes_sizes-requires : goal.nodes_sizes-requires
nodes_sizes-requires c =
    record {
      known = known_none c.args.w.now.tape.now c.args.w.now.st.now 1;
      count_in_bounds = c.requires.count_in_bounds;
    }
