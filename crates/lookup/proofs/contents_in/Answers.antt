use Rattle.lookup.specs.Ranges.{range_none, range_there}
use Rattle.lookup.proofs.contents_in.Goals as goal

pub returns-then-not-has_contents : goal.returns-then-not-has_contents
returns-then-not-has_contents c =
    range_none c.has_contents.ensures _ _ c.if-not-has_contents.true

pub returns : goal.returns
returns c =
    range_there c.has_contents.ensures _ _ c.if-not-has_contents.false c.content_place.ensures
