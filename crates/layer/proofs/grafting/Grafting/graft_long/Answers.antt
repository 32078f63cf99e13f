use Rattle.layer.proofs.grafting.Grafting.graft_long.Goals as goal

pub graft_by-requires-clause-pairs : goal.graft_by-requires-clause-pairs
graft_by-requires-clause-pairs c = c.pair_words.ensures
