use Rattle.std.proofs.Common.{refl, arith}
use Rattle.strings.specs.Starts.{run_inside, run_start, start_most}
use Rattle.strings.proofs.start_after.Goals as goal

pub strings_length-requires : goal.strings_length-requires
strings_length-requires c =
    (omega (arith, run_inside c.requires.readable c.requires.in_layer c.string_place-at.ensures), c.requires.readable.small)

pub overflow_add-result : goal.overflow_add-result
overflow_add-result c =
    omega (arith, run_start c.requires.readable c.requires.in_layer c.string_place-at.ensures c.requires.start_value refl c.strings_length.ensures, start_most c.requires.readable c.args.next, c.requires.readable.small)

pub returns : goal.returns
returns c =
    run_start c.requires.readable c.requires.in_layer c.string_place-at.ensures c.requires.start_value refl c.strings_length.ensures
