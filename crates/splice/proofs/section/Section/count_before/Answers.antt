use Rattle.std.proofs.Common.{length, ap, ◌∙◌}
use Rattle.model.specs.Tape.{records_at}
use Rattle.splice.specs.Parts.{part_before}
use Rattle.splice.specs.Window.{window_value}
use Rattle.splice.proofs.section.Section.count_before.Goals as goal

pub returns : goal.returns
returns g c =
    let k = g.K.Spliced in
    c.count_part.ensures ∙ ap length (part_before k.located (window_value c.args.w) (records_at k.codec c.args.self.now.tape.now c.args.self.now.run.at c.args.self.now.run.count))
