use Rattle.wire.specs.Overwrite.{set_overwrite}
use Rattle.wire.proofs.put_u8.Goals as goal

pub returns : goal.returns
returns c =
    set_overwrite _ _ _ c.requires
