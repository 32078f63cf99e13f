use Rattle.std.proofs.Common.{refl}
use Rattle.tape.specs.StringBytes.{held_cut, held_resolvable, held_layers_of}
use Rattle.tape.proofs.book.Book.strings.Goals as goal

pub slice_bounds-result-end-2 : goal.slice_bounds-result-end-2
slice_bounds-result-end-2 c = (held_cut c.args.self.now.held refl c.last_strings_at-cut.ensures).1

pub slice_bounds-result-count-2 : goal.slice_bounds-result-count-2
slice_bounds-result-count-2 c = (held_cut c.args.self.now.held refl c.last_strings_at-cut.ensures).1

pub slice_bounds-result-start-2 : goal.slice_bounds-result-start-2
slice_bounds-result-start-2 c = (held_cut c.args.self.now.held refl c.last_strings_at-cut.ensures).1

pub invariant_of-result : goal.invariant_of-result
invariant_of-result c = record { resolvable = held_resolvable c.args.self.now.held refl c.last_strings_at-cut.ensures c.args.self.now.bytes_small }

pub returns : goal.returns
returns c = record { tape = refl; store = refl; layers = held_layers_of c.args.self.now.held refl c.last_strings_at-cut.ensures }
