use Rattle.std.proofs.Common.{ap, ◌∙◌}
use Rattle.model.specs.Tape.{records_at, records_bytes}
use Rattle.wire.specs.Overwrite.{overwrite}
use Rattle.splice.specs.Counted.{before_room}
use Rattle.splice.specs.Parts.{part_before}
use Rattle.splice.specs.Window.{window_value}
use Rattle.splice.proofs.section.Section.put_before.Goals as goal

pub put_part-requires : goal.put_part-requires
put_part-requires g c =
    let k = g.K.Spliced in
    before_room k.located (window_value c.args.w) (records_at k.codec c.args.self.now.tape.now c.args.self.now.run.at c.args.self.now.run.count) c.args.to k.SIZE _ c.requires

pub returns : goal.returns
returns g c =
    let k = g.K.Spliced in
    let s = c.args.self.now in
    c.put_part.ensures
    ∙ ap (λ x. overwrite c.args.out.now c.args.to (records_bytes k.codec x)) (part_before k.located (window_value c.args.w) (records_at k.codec s.tape.now s.run.at s.run.count))
