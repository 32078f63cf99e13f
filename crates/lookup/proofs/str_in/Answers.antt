use native.Mathlib.Omega.{arith}
use Rattle.lookup.specs.Strings.{str_none, str_inside, str_there}
use Rattle.lookup.proofs.str_in.Goals as goal

pub returns-then-not-has_string : goal.returns-then-not-has_string
returns-then-not-has_string c =
    str_none _ _ _ _ c.has_string.ensures c.if-not-has_string.true

pub overflow_add-result : goal.overflow_add-result
overflow_add-result c =
    omega (arith, str_inside c.requires.readable _ c.start_from-start.ensures c.string_length-len.ensures, c.requires.from_bound, c.requires.readable.small)

pub overflow_add-result-2 : goal.overflow_add-result-2
overflow_add-result-2 c =
    omega (arith, str_inside c.requires.readable _ c.start_from-start.ensures c.string_length-len.ensures, c.requires.from_bound, c.requires.readable.small)

pub overflow_add-result-3 : goal.overflow_add-result-3
overflow_add-result-3 c =
    omega (arith, str_inside c.requires.readable _ c.start_from-start.ensures c.string_length-len.ensures, c.requires.from_bound, c.requires.readable.small)

pub returns : goal.returns
returns c =
    str_there _ _ _ _ c.has_string.ensures c.if-not-has_string.false c.start_from-start.ensures c.string_length-len.ensures
