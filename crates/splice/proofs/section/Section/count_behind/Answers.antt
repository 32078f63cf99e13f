use Rattle.std.proofs.Common.{length, ap, ◌∙◌}
use Rattle.std.proofs.lemmas.List.{length-map}
use Rattle.model.specs.Tape.{records_at}
use Rattle.model.specs.Merge.{kept_behind}
use Rattle.splice.specs.Parts.{part_behind}
use Rattle.splice.specs.Window.{window_value}
use Rattle.splice.proofs.section.Section.count_behind.Goals as goal

pub returns : goal.returns
returns g c =
    let k = g.K.Spliced in
    let w = window_value c.args.w in
    let run = records_at k.codec c.args.self.now.tape.now c.args.self.now.run.at c.args.self.now.run.count in
    c.count_part.ensures ∙ ap length (part_behind k.located w run) ∙ length-map (kept_behind k.located w run) (k.located.moved w)
