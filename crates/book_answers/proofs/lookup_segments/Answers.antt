use Rattle.model.specs.Tape.{segment_codec}
use Rattle.lookup.specs.Ranges.{range_shown}
use Rattle.answers.specs.Answers.{range_told}
use Rattle.book_answers.proofs.lookup_segments.Goals as goal

pub returns : goal.returns
returns c =
    range_told _ c.from.ensures (range_shown segment_codec _) c.lookup_segments.ensures
