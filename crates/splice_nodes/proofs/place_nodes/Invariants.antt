use Rattle.std.proofs.Common.{◌+◌, ◌*◌}
use Rattle.model.specs.Merge.{node_located}
use Rattle.model.specs.Tape.{node_codec}
use Rattle.splice.specs.declared.Part.TheVariants.{Reading}
use Rattle.splice.specs.Parts.{PutUpTo}
use Rattle.splice.specs.Window.{window_value}
use Rattle.splice_nodes.proofs.place_nodes.Given as goal

abbrev pub invariant-loop-i : goal.invariant-loop-i
invariant-loop-i l = PutUpTo node_codec node_located (window_value l.w) Reading l.initial.out l.at l.initial.out l.at l.i (l.at + 49 * l.i) l.out
