use Rattle.cuts.specs.Window.{noted_past, noted_there}
use Rattle.cuts.proofs.note.Goals as goal

pub returns-then-k-slots : goal.returns-then-k-slots
returns-then-k-slots c = noted_there _ _ _ _ _ c.slot_of-k.ensures c.if-k-slots.true _ c.max.ensures

pub returns-else-k-slots : goal.returns-else-k-slots
returns-else-k-slots c = noted_past _ _ _ _ _ c.slot_of-k.ensures c.if-k-slots.false
