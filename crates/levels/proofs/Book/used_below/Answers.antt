use Rattle.std.proofs.Common.{is_some}
use Rattle.levels.specs.Below.{used_below, used_other}
use Rattle.levels.specs.Told.{told, told_less}
use Rattle.levels.proofs.Book.used_below.Goals as goal

pub returns-in-Contents : goal.returns-in-Contents
unfolding used_below
returns-in-Contents c =
    rw c.in-Contents.is c.contents_below.ensures

pub returns-in-Segments : goal.returns-in-Segments
unfolding used_below
returns-in-Segments c =
    rw c.in-Segments.is (told_less (is_some c.args.self.now.heights) c.segments_below.ensures)

pub returns-in_default : goal.returns-in_default
returns-in_default c =
    told (used_other _ _ _ _ _ c.args.usage c.in_default.not-Contents c.in_default.not-Segments)
