use Rattle.std.proofs.Common.{refl}
use Rattle.bloom.specs.Filter.{hash_bits}
use Rattle.bloom.proofs.bits_of.Goals as goal

pub returns : goal.returns
unfolding hash_bits
returns c =
    rw (c.power.ensures, c.power-2.ensures, c.power-3.ensures, c.power-4.ensures) refl
