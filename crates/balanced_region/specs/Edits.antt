-- The region of an edit.
use Rattle.model.specs.Offset.{Span}
use Rattle.cuts.specs.Sources.{nodes_in, pairs_in}
use Rattle.balanced_region.specs.declared.Edited.{Edited}
use Rattle.balanced_region.specs.Ends.{balanced_in}
use Rattle.balanced_region.specs.Survives.{search_from}

abbrev pub region_around : Edited → Span
region_around e = balanced_in e.source.text.now (nodes_in e.source) (pairs_in e.source) e.start.0 (search_from e.source.text.now e.start.0 e.end.0 e.replacement.now)
