use Rattle.std.proofs.Common.{refl}
use Rattle.output.specs.Cleared.{merged}
use Rattle.result.specs.Stages.{written_refused}
use Rattle.desk.proofs.refuse.Goals as goal

pub returns : goal.returns
returns c = merged _ (written_refused _ _ _ _ refl refl refl refl) refl refl c.clear_rest.ensures.0 c.clear_rest.ensures.1 c.clear_rest.ensures.2
