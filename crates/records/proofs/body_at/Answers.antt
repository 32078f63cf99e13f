use mathlib.Core.Path.{refl}
use Rattle.records.specs.Values.{body_at}
use Rattle.records.proofs.body_at.Goals as goal

pub returns : goal.returns
unfolding body_at
returns c =
    rw (c.u32_at.ensures, c.u32_at-2.ensures, c.u32_at-3.ensures, c.u32_at-4.ensures, c.u32_at-5.ensures, c.u32_at-6.ensures, c.u32_at-7.ensures, c.u32_at-8.ensures) refl
