use Rattle.std.proofs.Common.{refl, arith}
use Rattle.strings.specs.Starts.{start_most}
use Rattle.lookup.specs.Strings.{str_inside}
use Rattle.tape.specs.Held.{held_readable}
use Rattle.listing.specs.Strings.{string_there}
use Rattle.listing.proofs.Listed.string_bytes.Goals as goal

pub start_from-requires : goal.start_from-requires
start_from-requires c =
    record {
      readable = held_readable c.args.self.now.book.held c.args.self.now.book.bytes_small;
      between = record { order = omega arith; inside = omega (arith, c.requires) };
      start_value = refl;
    }

pub overflow_add-start : goal.overflow_add-start
overflow_add-start c =
    omega (arith, start_most (held_readable c.args.self.now.book.held c.args.self.now.book.bytes_small) c.args.id.0, c.start_from.ensures, c.args.self.now.short)

pub string_length-len-requires : goal.string_length-len-requires
string_length-len-requires c =
    record {
      of_tape = (held_readable c.args.self.now.book.held c.args.self.now.book.bytes_small).store;
      id_lt_strings = c.requires;
    }

pub overflow_add-start-2 : goal.overflow_add-start-2
overflow_add-start-2 c =
    omega (arith, str_inside (held_readable c.args.self.now.book.held c.args.self.now.book.bytes_small) c.args.id.0 c.start_from.ensures c.string_length-len.ensures, c.args.self.now.short)

pub returns : goal.returns
returns c =
    string_there c.args.self.now.book.held c.args.self.now.short _ c.requires c.u32_or_zero.ensures c.u32_or_zero-2.ensures c.start_from.ensures c.string_length-len.ensures c.between.ensures
