use Rattle.std.proofs.Common.{arith}
use Rattle.model.specs.Merge.{diagnostic_located, spliced}
use Rattle.model.specs.Tape.{diagnostic_codec, records_at}
use Rattle.splice.specs.Window.{window_value}
use Rattle.merged_lists.specs.Lists.{total_is, sorted_wrote, diagnostics_there}
use Rattle.merged_lists.proofs.put_diagnostics.Goals as goal

pub put_list-requires : goal.put_list-requires
put_list-requires c = record {
  before_value = c.requires.before_value.0;
  list_in_bounds = omega (arith, c.requires.before_value.1, c.requires.all_in_bounds);
}

pub sort_diagnostics-requires : goal.sort_diagnostics-requires
sort_diagnostics-requires c =
    let run = records_at diagnostic_codec c.args.old.now.tape.now c.args.old.now.run.at c.args.old.now.run.count in
    let new = records_at diagnostic_codec c.args.new.now.tape.now c.args.new.now.run.at c.args.new.now.run.count in
    let w = window_value c.args.w in
    let long = total_is diagnostic_codec diagnostic_located w run c.args.new.now.tape.now c.args.new.now.run.at c.args.new.now.run.count c.requires.before_value.1 in
    diagnostics_there c.args.out.now c.args.to c.args.all (spliced diagnostic_located w run new) c.requires.count_value long c.requires.all_in_bounds c.put_list.ensures

pub returns : goal.returns
returns c =
    let run = records_at diagnostic_codec c.args.old.now.tape.now c.args.old.now.run.at c.args.old.now.run.count in
    let new = records_at diagnostic_codec c.args.new.now.tape.now c.args.new.now.run.at c.args.new.now.run.count in
    let w = window_value c.args.w in
    let long = total_is diagnostic_codec diagnostic_located w run c.args.new.now.tape.now c.args.new.now.run.at c.args.new.now.run.count c.requires.before_value.1 in
    sorted_wrote c.args.out.now c.args.to c.args.all (spliced diagnostic_located w run new) c.requires.count_value long c.requires.all_in_bounds c.put_list.ensures c.sort_diagnostics.ensures
