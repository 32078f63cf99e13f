use Rattle.std.proofs.Common.{sym, ◌∙◌, rules}
use Rattle.bloom.specs.Filter.{found_none, found_not, found_both, half_small}
use Rattle.bloom.proofs.may_contain.Goals as goal

pub returns-then-is_empty : goal.returns-then-is_empty
returns-then-is_empty c = sym (found_none _ _ (search rules))

pub has_bits-requires : goal.has_bits-requires
has_bits-requires c = (search rules, half_small _)

pub has_bits-requires-then-has_bits : goal.has_bits-requires-then-has_bits
has_bits-requires-then-has_bits c = (search rules, half_small _)

pub returns-then-has_bits : goal.returns-then-has_bits
returns-then-has_bits c = found_both _ _ (search rules) c.bits_of-m.ensures c.has_bits.ensures c.if-has_bits.true c.has_bits-then-has_bits.ensures

pub returns-else-has_bits : goal.returns-else-has_bits
returns-else-has_bits c = c.if-has_bits.false ∙ found_not _ _ (search rules) c.bits_of-m.ensures c.has_bits.ensures c.if-has_bits.false
