use Rattle.representatives.specs.Bisection.{known_end, known_other}
use Rattle.representatives.proofs.representative.Goals as goal

pub returns-then-m-p-clause-known : goal.returns-then-m-p-clause-known
returns-then-m-p-clause-known c = known_end c.pairs_in-m.ensures c.rank_of-p.ensures c.if-m-p.true

pub returns-then-words-p-clause-known : goal.returns-then-words-p-clause-known
returns-then-words-p-clause-known c = known_other c.pairs_in-m.ensures c.rank_of-p.ensures c.if-words-p.true
