use Rattle.std.proofs.Common.{arith}
use Rattle.dependency.specs.Rows.{rowed_one}
use Rattle.dependency.specs.Named.{rowed_again}
use Rattle.dependency.proofs.insert_first.Goals as goal

pub returns-then-is_base_again : goal.returns-then-is_base_again
returns-then-is_base_again c = (
  omega (arith, c.requires.m_le_i),
  rowed_again c.args.nodes.now.strings _ _ _ _ c.requires.rowed c.if-n-i.false c.is_base_again.ensures c.if-is_base_again.true,
)

pub returns : goal.returns
returns c = (
  omega (arith, c.insert_base.ensures.few, c.requires.m_le_i),
  rowed_one _ _ _ _ _ c.requires.rowed c.if-n-i.false c.insert_base.ensures,
)
