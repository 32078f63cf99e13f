use Rattle.output.specs.Cleared.{tape_within, bytes_within, merged}
use Rattle.incremental.proofs.merge.Goals as goal

pub clear_rest-requires : goal.clear_rest-requires
clear_rest-requires c = (
  tape_within _ c.merge_stored-r.ensures c.taken-tape_end.ensures.0,
  bytes_within _ c.merge_stored-r.ensures c.taken-tape_end.ensures.1,
)

pub returns : goal.returns
returns c =
    merged _ c.merge_stored-r.ensures c.taken-tape_end.ensures.0 c.taken-tape_end.ensures.1
    c.clear_rest.ensures.0 c.clear_rest.ensures.1 c.clear_rest.ensures.2
