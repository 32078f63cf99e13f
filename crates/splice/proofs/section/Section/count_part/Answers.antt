use Rattle.std.proofs.Common.{◌∙◌, ◌+◌, ◌*◌, arith, rules}
use Rattle.std.proofs.lemmas.Iterator.{YieldsList-from_range}
use Rattle.std.proofs.lemmas.Iterator.Consumers.{count_from_yields_List, YieldsList-from_filter}
use Rattle.model.specs.Tape.{record_at}
use Rattle.splice.specs.Parts.{is_in, counted}
use Rattle.splice.specs.Window.{window_value}
use Rattle.splice.proofs.section.Section.count_part.Goals as goal

pub returns : goal.returns
returns g c =
    let k = g.K.Spliced in
    let s = c.args.self.now in
    count_from_yields_List c.filter.result c.count.result c.count.ensures.ran
    (YieldsList-from_filter _ (λ i. is_in k.located (window_value c.args.w) c.args.part (record_at k.codec s.tape.now (s.run.at + k.SIZE * i))) (YieldsList-from_range 0 s.run.count s.run.count c.filter.ensures.source (omega arith))
    c.filter.ensures.closure (λ x b q m. search rules))
    ∙ counted g.met.K.Spliced.kind (window_value c.args.w) c.args.part s.tape.now s.run.at s.run.count
