use Rattle.interner.specs.Added.{alloced}
use Rattle.interner.proofs.StrInterner.alloc.Goals as goal

pub returns : goal.returns
returns c =
    alloced c.args.work.now c.args.strs.now c.args.s.now c.args.self.now c.requires.good c.requires.count_bound.0 c.requires.count_bound.1 _ c.copy_at.ensures c.args.stats c.requires.counted c.put_start.ensures
