use Rattle.model.specs.Tape.{record_at, operands_at, node_codec}
use Rattle.records.proofs.node_start.Goals as goal

pub returns : goal.returns
unfolding record_at operands_at node_codec
returns c =
    c.u32_at.ensures
