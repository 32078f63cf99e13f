use Rattle.std.proofs.Common.{arith}
use Rattle.strings.specs.Starts.{length_inside, length_word}
use Rattle.strings.proofs.string_length.Goals as goal

pub overflow_add-at : goal.overflow_add-at
overflow_add-at c =
    omega (arith, length_inside c.requires.of_tape c.requires.id_lt_strings c.string_place-at.ensures)

pub u32_at-requires : goal.u32_at-requires
u32_at-requires c =
    omega (arith, length_inside c.requires.of_tape c.requires.id_lt_strings c.string_place-at.ensures)

pub returns : goal.returns
returns c =
    length_word c.requires.of_tape c.requires.id_lt_strings c.string_place-at.ensures c.u32_at.ensures
