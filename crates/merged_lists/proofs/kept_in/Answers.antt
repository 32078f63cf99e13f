use Rattle.std.proofs.Common.{refl, sym}
use Rattle.tape.specs.Held.{held_places}
use Rattle.tape.specs.Placed.{fit_nodes, fit_pairs, fit_containers, fit_diagnostics}
use Rattle.merged_lists.specs.Sizes.{kept_of}
use Rattle.merged_lists.proofs.kept_in.Goals as goal

pub new-requires : goal.new-requires
new-requires c = fit_nodes (held_places c.args.m.now.book.held)

pub new-requires-2 : goal.new-requires-2
new-requires-2 c = fit_pairs (held_places c.args.m.now.book.held)

pub new-requires-3 : goal.new-requires-3
new-requires-3 c = fit_containers (held_places c.args.m.now.book.held)

pub new-requires-4 : goal.new-requires-4
new-requires-4 c = fit_diagnostics (held_places c.args.m.now.book.held)

pub returns : goal.returns
unfolding kept_of
returns c =
    let nodes = rw (c.new.ensures.0, c.new.ensures.1) at c.sides_in.ensures in
    let pairs = rw (c.new-2.ensures.0, c.new-2.ensures.1) at c.sides_in-2.ensures in
    let containers = rw (c.new-3.ensures.0, c.new-3.ensures.1) at c.sides_in-3.ensures in
    let diagnostics = rw (c.new-4.ensures.0, c.new-4.ensures.1) at c.sides_in-4.ensures in
    rw (sym nodes, sym pairs, sym containers, sym diagnostics) refl
