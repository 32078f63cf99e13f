use Rattle.std.proofs.Common.{sym, rules}
use Rattle.bloom.specs.Filter.{inserted_none, inserted_both, with_inside, half_small}
use Rattle.bloom.proofs.insert.Goals as goal

pub returns-then-is_empty : goal.returns-then-is_empty
returns-then-is_empty c = sym (inserted_none _ _ (search rules))

pub set_bits-requires : goal.set_bits-requires
set_bits-requires c = (search rules, half_small _)

pub set_bits-requires-2 : goal.set_bits-requires-2
set_bits-requires-2 c = (with_inside _ _ _ c.set_bits.ensures (search rules), half_small _)

pub returns : goal.returns
returns c = inserted_both _ _ (search rules) c.bits_of-m.ensures c.set_bits.ensures c.set_bits-2.ensures
