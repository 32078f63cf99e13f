-- A text with a part replaced.
use Rattle.std.specs.Prelude.{ℕ, List}
use Rattle.laws.specs.Splice.{splice}
use Rattle.merged_texts.specs.declared.replaced.Replaced.{Replaced}

abbrev pub replaced : Replaced → List ℕ
replaced r = splice r.start r.end r.part.now r.whole.now
