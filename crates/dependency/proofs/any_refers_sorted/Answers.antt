use Rattle.std.proofs.Common.{◌≡◌, refl, sym, arith}
use Rattle.wire.specs.Loops.{any_found}
use Rattle.dependency.specs.Later.{left_none, left_all}
use Rattle.sorted_ids.specs.Row.{sorted_cut}
use Rattle.dependency.specs.Rows.{rowed_start, rowed_cut}
use Rattle.dependency.proofs.any_refers_sorted.Goals as goal

pub loop-i-init : goal.loop-i-init
loop-i-init c = (refl, omega arith, rowed_start _ _ _ _ _, left_none _ _)

pub invariant_of-bases : goal.invariant_of-bases
invariant_of-bases c = record { sorted = sorted_cut c.loop-i.invariant.2.row }

pub refers_or_later-requires-clause-bases : goal.refers_or_later-requires-clause-bases
refers_or_later-requires-clause-bases c = record { holds = rowed_cut c.loop-i.invariant.2 }

pub returns-then-refers_or_later : goal.returns-then-refers_or_later
returns-then-refers_or_later c = sym (any_found _ _ c.loop-i.i c.loop-i-test.true (c.refers_or_later.ensures.yes c.if-refers_or_later.true))

pub returns : goal.returns
returns c =
    let e : c.loop-i.i ≡ c.args.nodes.now.run.count = omega arith in
    sym (left_all _ _ (rw e at c.loop-i.invariant.3))
