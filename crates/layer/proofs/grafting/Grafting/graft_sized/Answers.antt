use Rattle.representatives.specs.Pairs.{pairs_none}
use Rattle.layer.specs.Source.{source_of}
use Rattle.layer.proofs.grafting.Grafting.graft_sized.Goals as goal

pub any_long-requires : goal.any_long-requires
any_long-requires c = (source_of c.args.self.now.source.now.held).fit

pub graft_by-requires-clause-pairs : goal.graft_by-requires-clause-pairs
graft_by-requires-clause-pairs c = pairs_none _
