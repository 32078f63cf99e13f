use Rattle.dependency.specs.Later.{settled_later, settled_here}
use Rattle.dependency.specs.Rows.{rowed_refers}
use Rattle.dependency.specs.Among.{refers_first}
use Rattle.dependency.proofs.refers_or_later.Goals as goal

pub returns-then-asks_again : goal.returns-then-asks_again
returns-then-asks_again c = settled_later c.args.nodes.now.strings _ _ _ _ _ _ c.asks_again.ensures c.if-asks_again.true

pub returns : goal.returns
returns c = settled_here (refers_first c.args.nodes.now c.args.from.0 c.args.n) _ _ (rowed_refers _ _ _ _ _ c.requires.bases c.refers_to_row.ensures)
