-- The test of one diagnostic that allows the reading of a part.
use Rattle.std.specs.Prelude.{Bool, ltb}
use Rattle.model.specs.Types.{Diagnostic}

abbrev pub allows_incremental : Diagnostic → Bool
allows_incremental d = ltb d.kind 2
