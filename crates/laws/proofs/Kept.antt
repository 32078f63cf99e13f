-- A book whose layers go on from those of another keeps each reference of it.
use Rattle.std.specs.Prelude.{◌≡◌, true, List, ◌++◌}
use Rattle.model.specs.Types.{Layer, LexOutput}
use Rattle.model.specs.WellFormed.{ids_ok}
use Rattle.model.specs.Demand3.{KeptReferences}
use Rattle.laws.specs.Layers.{string_kept, contents_kept, segments_kept}

module _ (first later : LexOutput) (more : List Layer) (e : later.layers ≡ first.layers ++ more) (ids : ids_ok first ≡ true) where
  -- A book whose layers go on from those of a book that passes number 4 has every id and range of it, and each shows what it showed.
  pub kept_references : KeptReferences first later
  kept_references = record {
    strings = string_kept first later more e ids;
    contents = contents_kept first later more e ids;
    segments = segments_kept first later more e ids;
  }
