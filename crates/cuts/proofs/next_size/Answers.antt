use Rattle.cuts.specs.Window.{size_all, size_grows}
use Rattle.cuts.proofs.next_size.Goals as goal

pub returns-then-room-size : goal.returns-then-room-size
returns-then-room-size c = size_all _ _ c.if-room-size.true

pub returns-else-room-size : goal.returns-else-room-size
returns-else-room-size c = size_grows _ _ c.if-room-size.false
