use Rattle.bloom.specs.Filter.{power_fits}
use Rattle.bloom.proofs.power.Goals as goal

pub returns : goal.returns
returns c =
    power_fits _ c.requires
