use Rattle.splice.specs.Window.{window_value}
use Rattle.merged_lists.specs.Lists.{parts_written}
use Rattle.merged_lists.proofs.put_list.Goals as goal

pub returns : goal.returns
returns g c =
    parts_written g.met.K.Spliced.kind (window_value c.args.w) c.args.old.now.tape.now c.args.old.now.run.at c.args.old.now.run.count c.args.new.now.tape.now c.args.new.now.run.at c.args.new.now.run.count
    c.args.out.now c.args.to c.args.before c.requires.before_value c.requires.list_in_bounds c.put_before.ensures (rw c.SIZE.ensures at c.put_reading.ensures)
    (rw (c.SIZE.ensures, c.SIZE-2.ensures) at c.put_behind.ensures)
