use Rattle.lookup.specs.Ranges.{range_none, range_there}
use Rattle.lookup.proofs.segments_in.Goals as goal

pub returns-then-not-has_segments : goal.returns-then-not-has_segments
returns-then-not-has_segments c =
    range_none c.has_segments.ensures _ _ c.if-not-has_segments.true

pub returns : goal.returns
returns c =
    range_there c.has_segments.ensures _ _ c.if-not-has_segments.false c.segment_place.ensures
