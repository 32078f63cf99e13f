use Rattle.ids.specs.Tests.{segment_answer}
use Rattle.ids.proofs.Pools.segment_ids_ok.Goals as goal

pub returns : goal.returns
returns c =
    segment_answer _ _ _ _ c.body_ids_ok.ensures
