use Rattle.ruby_formats.specs.Books.{strings_sound}
use Rattle.ruby_formats.proofs.nodes.Nodes.of.Goals as goal

pub invariant_of-result : goal.invariant_of-result
invariant_of-result c = record { sound = strings_sound c.strings.ensures }
