use Rattle.std.proofs.Common.{◌∙◌}
use Rattle.strings.specs.Shown.{string_lies, string_shown, span_of_start, shown_str}
use Rattle.strings.specs.Starts.{lengths_in}
use Rattle.strings.proofs.lent.Strings.resolve_str.Goals as goal

pub resolve-requires : goal.resolve-requires
resolve-requires c =
    string_lies c.args.self.now.resolvable.sides c.args.id.0 c.old_strings-olds.ensures (span_of_start (lengths_in c.args.self.now.tape.now) c.args.id.0 c.string_start-start.ensures) c.string_length-len.ensures

pub returns-clause-shown : goal.returns-clause-shown
returns-clause-shown c =
    c.resolve.ensures ∙ string_shown c.args.self.now.resolvable.sides c.args.id.0 c.old_strings-olds.ensures (span_of_start (lengths_in c.args.self.now.tape.now) c.args.id.0 c.string_start-start.ensures) c.string_length-len.ensures

pub returns-clause-resolved : goal.returns-clause-resolved
returns-clause-resolved c =
    c.resolve.ensures
    ∙ string_shown c.args.self.now.resolvable.sides c.args.id.0 c.old_strings-olds.ensures (span_of_start (lengths_in c.args.self.now.tape.now) c.args.id.0 c.string_start-start.ensures) c.string_length-len.ensures
    ∙ shown_str c.args.self.now.resolvable.sides c.args.id.0 c.requires
