-- A merged book's safe cuts up to the region's start are those of the old book.
use Rattle.model.specs.Offset.{Span}
use Rattle.model.specs.Types.{LexOutput, RegionOutput}
use Rattle.model.specs.Region.{Edit}
use Rattle.model.specs.Merge.{merged_book}
use Rattle.laws.specs.Checks.{merged_of}
use Rattle.commute.specs.Cut.{SameBefore}
use Rattle.commute.specs.Merged.{Fit, text_before, nodes_before_lem, pairs_before_lem}

module _ {old : LexOutput} {e : Edit} {reading : RegionOutput} {r : Span} (f : Fit old e reading r) where
  pub same_before : SameBefore r.start old (merged_of old e reading r)
  unfolding merged_book
  same_before = record { text = text_before f; nodes = nodes_before_lem f; pairs = pairs_before_lem f }
