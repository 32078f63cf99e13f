use Rattle.level_blocks.specs.Blocks.{skips_none, skips_16, skips_256, skips_4096, skips_65536}
use Rattle.level_blocks.proofs.known_end.Goals as goal

pub returns-then-level-gt254 : goal.returns-then-level-gt254
returns-then-level-gt254 c =
    skips_none _ _ _

pub returns-then-i-gt-MAX_POOL : goal.returns-then-i-gt-MAX_POOL
returns-then-i-gt-MAX_POOL c =
    skips_none _ _ _

pub returns-then-level-table : goal.returns-then-level-table
returns-then-level-table c =
    skips_none _ _ _

pub returns-then-level-table-2 : goal.returns-then-level-table-2
returns-then-level-table-2 c =
    skips_16 c.requires c.args.level c.args.i c.if-level-gt254.false c.if-i-gt-MAX_POOL.false c.if-level-table.false

pub returns-then-level-table-3 : goal.returns-then-level-table-3
returns-then-level-table-3 c =
    skips_256 c.requires c.args.level c.args.i c.if-level-gt254.false c.if-i-gt-MAX_POOL.false c.if-level-table-2.false

pub returns-then-level-table-4 : goal.returns-then-level-table-4
returns-then-level-table-4 c =
    skips_4096 c.requires c.args.level c.args.i c.if-level-gt254.false c.if-i-gt-MAX_POOL.false c.if-level-table-3.false

pub returns : goal.returns
returns c =
    skips_65536 c.requires c.args.level c.args.i c.if-level-gt254.false c.if-i-gt-MAX_POOL.false c.if-level-table-4.false
