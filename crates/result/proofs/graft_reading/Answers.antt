use Rattle.std.proofs.Common.{refl, arith}
use Rattle.stats.specs.Counts.{default_is}
use Rattle.result.specs.Grafting.{graft_none, graft_refused, graft_some, graft_used}
use Rattle.result.proofs.graft_reading.Goals as goal

pub returns-then-reading-eq0 : goal.returns-then-reading-eq0
returns-then-reading-eq0 c =
    let zeros = c.default.ensures in
    graft_none c.args.reading.now c.if-reading-eq0.true c.requires.1 zeros.0 zeros.1.0 (default_is c.default.result.stats zeros.1.1)

pub returns-in_err-l : goal.returns-in_err-l
returns-in_err-l c = rw c.from_residual.ensures (graft_refused c.args.reading.now c.if-reading-eq0.false c.in_err-l.ensures)

pub overflow_sub-result : goal.overflow_sub-result
overflow_sub-result c = let x = graft_used c.in_ok-l.ensures in omega (arith, x)

pub returns : goal.returns
returns c = graft_some c.args.reading.now c.if-reading-eq0.false c.in_ok-l.ensures refl refl refl
