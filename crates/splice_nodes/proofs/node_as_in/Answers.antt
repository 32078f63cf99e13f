use Rattle.splice.specs.Written.{node_as_in}
use Rattle.records.specs.Values.{source_node_of}
use Rattle.splice.specs.Window.{window_value}
use Rattle.splice_nodes.proofs.node_as_in.Goals as goal

pub returns : goal.returns
returns c =
    rw (c.span_in.ensures, c.normalized_in.ensures) (node_as_in (window_value c.args.w) c.args.part (source_node_of c.args.n))
