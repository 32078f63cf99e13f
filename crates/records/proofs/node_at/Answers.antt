use Rattle.records.specs.Values.{node_read}
use Rattle.records.proofs.node_at.Goals as goal

pub returns : goal.returns
returns c = node_read _ _ _ _ _ c.span_at.ensures c.node_offset.ensures c.body_at-body.ensures
