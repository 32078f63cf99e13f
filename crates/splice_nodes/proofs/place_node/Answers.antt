use Rattle.splice.specs.declared.Part.TheVariants.{Reading}
use Rattle.wire.specs.Overwrite.{overwrite}
use Rattle.splice.specs.Parts.{as_in}
use Rattle.model.specs.Merge.{node_located}
use Rattle.model.specs.Tape.{record_bytes, node_codec}
use Rattle.splice.specs.Window.{window_value}
use Rattle.std.proofs.Common.{◌∙◌}
use mathlib.Core.Path.{ap}
use Rattle.splice_nodes.proofs.place_node.Goals as goal

pub returns : goal.returns
returns c =
    c.put_node.ensures ∙ ap (overwrite c.args.out.now c.args.at) (c.node_as_in.ensures ∙ ap (λ x. record_bytes node_codec (as_in node_located (window_value c.args.w) Reading x)) c.node_at-n.ensures)
