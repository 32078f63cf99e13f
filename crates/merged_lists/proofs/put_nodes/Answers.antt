use Rattle.model.specs.Tape.{node_codec, records_at}
use Rattle.laws.specs.Records.{run_length}
use Rattle.splice.specs.Window.{window_value}
use Rattle.laws.specs.Parts.{nodes_six}
use Rattle.merged_lists.specs.Lists.{nodes_wrote}
use native.Mathlib.Omega.{arith}
use Rattle.merged_lists.proofs.put_nodes.Goals as goal

pub move_up-requires : goal.move_up-requires
move_up-requires c =
    omega (arith, c.requires.before_value, c.requires.reading_in_bounds)

pub put_before-requires : goal.put_before-requires
put_before-requires c =
    omega (arith, c.requires.before_value, c.requires.reading_in_bounds, c.move_up.auto.out)

pub place_nodes-requires : goal.place_nodes-requires
place_nodes-requires c =
    omega (arith, c.requires.before_value, c.requires.reading_in_bounds, c.move_up.auto.out, c.put_before.auto.out)

pub put_behind-requires : goal.put_behind-requires
put_behind-requires c =
    omega (arith, c.requires.before_value, c.requires.reading_in_bounds, c.move_up.auto.out, c.put_before.auto.out, c.place_nodes.auto.out)

pub returns : goal.returns
returns c =
    let old = c.args.old.now in
    let out = c.args.out.now in
    nodes_wrote (window_value c.args.w) (records_at node_codec old.tape.now old.run.at old.run.count) (nodes_six old.tape.now old.run.at old.run.count) out c.args.to c.args.before c.args.reading
    c.requires.before_value c.requires.reading_in_bounds c.move_up.ensures c.put_before.ensures (run_length node_codec out c.args.to c.args.reading) c.place_nodes.ensures c.put_behind.ensures
