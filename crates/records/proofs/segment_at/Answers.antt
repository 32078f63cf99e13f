use Rattle.records.specs.Values.{segment_read}
use Rattle.records.proofs.segment_at.Goals as goal

pub returns : goal.returns
returns c =
    segment_read _ _ _ c.body_at-body.ensures
