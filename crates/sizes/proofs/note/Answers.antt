use Rattle.sizes.specs.Known.{note_far, note_cut, note_put}
use Rattle.sizes.proofs.note.Goals as goal

pub returns-then-at-gt4294967295 : goal.returns-then-at-gt4294967295
returns-then-at-gt4294967295 c = note_far _ _ _ _ _ _ c.if-at-gt4294967295.true

pub returns-then-after-eq0 : goal.returns-then-after-eq0
returns-then-after-eq0 c = note_cut _ _ _ _ _ _ c.if-at-gt4294967295.false c.if-after-eq0.true

pub returns : goal.returns
returns c = note_put _ _ _ _ _ _ c.if-at-gt4294967295.false c.if-after-eq0.false _ c.taken-t.ensures c.put.ensures
