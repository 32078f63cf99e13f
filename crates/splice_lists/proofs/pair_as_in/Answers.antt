use Rattle.records.specs.Values.{pair_link_of}
use Rattle.splice.specs.Written.{pair_as_in}
use Rattle.splice.specs.Window.{window_value}
use Rattle.splice_lists.proofs.pair_as_in.Goals as goal

pub returns : goal.returns
returns c = rw (c.span_in.ensures, c.span_in-2.ensures) (pair_as_in (window_value c.args.w) c.args.part (pair_link_of c.args.p))
