use Rattle.levels.specs.Told.{told, told_as}
use Rattle.std.proofs.Common.{refl, sym, ap, ◌∙◌}
use Rattle.levels.specs.Below.{content_below, content_plain, content_segments_lem}
use Rattle.records.specs.Values.{content_of}
use Rattle.levels.proofs.Book.content_below.Goals as goal

pub returns-then-is_plain : goal.returns-then-is_plain
returns-then-is_plain c =
    let content = content_of c.content_at-c.result in
    told (content_plain c.args.self.now.tape.now c.args.self.now.st.now c.args.level content (sym c.is_plain.ensures ∙ c.if-is_plain.true) ∙ ap (content_below c.args.self.now.tape.now c.args.self.now.st.now c.args.level) c.content_at-c.ensures)

pub returns : goal.returns
returns c =
    let content = content_of c.content_at-c.result in
    told_as c.segments_below.ensures (content_segments_lem c.args.self.now.tape.now c.args.self.now.st.now c.args.level content _ (sym c.is_plain.ensures ∙ c.if-is_plain.false) refl ∙ ap (content_below c.args.self.now.tape.now c.args.self.now.st.now c.args.level) c.content_at-c.ensures)
