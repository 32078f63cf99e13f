use Rattle.records.specs.Values.{diagnostic_of}
use Rattle.splice.specs.Written.{diagnostic_as_in}
use Rattle.splice.specs.Window.{window_value}
use Rattle.splice_lists.proofs.diagnostic_as_in.Goals as goal

pub returns : goal.returns
returns c = rw (c.span_in.ensures) (diagnostic_as_in (window_value c.args.w) c.args.part (diagnostic_of c.args.d))
