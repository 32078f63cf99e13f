use Rattle.records.specs.Values.{container_pair_of}
use Rattle.splice.specs.Written.{container_as_in}
use Rattle.splice.specs.Window.{window_value}
use Rattle.splice_lists.proofs.container_as_in.Goals as goal

pub returns : goal.returns
returns c = rw (c.normalized_in.ensures, c.normalized_in-2.ensures) (container_as_in (window_value c.args.w) c.args.part (container_pair_of c.args.p))
