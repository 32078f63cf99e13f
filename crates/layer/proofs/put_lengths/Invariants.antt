use Rattle.std.proofs.Common.{◌≡◌}
use Rattle.model.specs.Tape.{records_bytes, string_codec}
use Rattle.wire.specs.Overwrite.{overwrite}
use Rattle.layer.specs.Lengths.{new_lengths}
use Rattle.layer.proofs.put_lengths.Given as goal

abbrev pub invariant-loop-i : goal.invariant-loop-i
invariant-loop-i l = l.out ≡ overwrite l.initial.out l.at (records_bytes string_codec (new_lengths l.work l.i))
