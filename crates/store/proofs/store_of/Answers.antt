use Rattle.store.specs.Stored.{filling_none, filling_inside, filling_fits, filling_more, filling_all}
use native.Mathlib.Omega.{arith}
use Rattle.store.proofs.store_of.Goals as goal

pub loop-i-init : goal.loop-i-init
loop-i-init c =
    filling_none _

pub next_layer-l-requires : goal.next_layer-l-requires
next_layer-l-requires c =
    filling_inside c.loop-i.invariant c.requires c.loop-i-test.true

pub with_layer-totals-requires : goal.with_layer-totals-requires
with_layer-totals-requires c =
    filling_fits c.loop-i.invariant c.requires c.loop-i-test.true c.next_layer-l.ensures

pub loop-i-preserved : goal.loop-i-preserved
loop-i-preserved c =
    filling_more c.loop-i.invariant c.requires c.loop-i-test.true c.next_layer-l.ensures c.with_layer-totals.ensures

pub returns : goal.returns
returns c =
    filling_all c.loop-i.invariant c.requires (omega arith)
