use Rattle.std.proofs.Common.{arith}
use Rattle.interner.specs.Lookups.{last_there}
use Rattle.graft.specs.Strings.{index_lent, part_inside, part_shows}
use Rattle.graft.proofs.intern_str.Goals as goal

pub intern_last-requires : goal.intern_last-requires
intern_last-requires c =
    record {
      last_nonzero = (last_there _ _ _ c.requires.good _ (c.requires.last c.if-is_last.true), omega (arith, c.requires.good.known, c.requires.good.words.few));
      counted = (c.requires.good.counts, c.requires.id_lt_strings.1);
    }

pub returns-then-is_last : goal.returns-then-is_last
returns-then-is_last c =
    c.intern_last.ensures c.args.work.now c.args.strs.now _ c.requires.good (c.requires.last c.if-is_last.true)

pub string_from-from-requires : goal.string_from-from-requires
string_from-from-requires c =
    record {
      indexed = rw (index_lent c.args.work.now) c.requires.indexed;
      id_lt_strings = c.requires.id_lt_strings.0;
    }

pub string_length-len-requires : goal.string_length-len-requires
string_length-len-requires c =
    record {
      of_tape = c.args.w.now.source.fit;
      id_lt_strings = c.requires.id_lt_strings.0;
    }

pub overflow_add-from : goal.overflow_add-from
overflow_add-from c =
    omega (arith, part_inside c.args.w.now.source _ c.requires.id_lt_strings.0 c.string_from-from.ensures c.string_length-len.ensures)

pub slice_bounds-intern-end : goal.slice_bounds-intern-end
slice_bounds-intern-end c =
    omega (arith, part_inside c.args.w.now.source _ c.requires.id_lt_strings.0 c.string_from-from.ensures c.string_length-len.ensures)

pub returns : goal.returns
returns c =
    rw (part_shows c.args.w.now.source _ c.requires.id_lt_strings.0 c.string_from-from.ensures c.string_length-len.ensures) at c.intern.ensures
