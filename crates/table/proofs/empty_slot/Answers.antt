use Rattle.table.specs.Slots.{empty_first, empty_here, empty_on, empty_none}
use mathlib.Core.Path.{sym, ◌∙◌}
use Rattle.table.proofs.empty_slot.Goals as goal

pub loop-init : goal.loop-init
loop-init c =
    (c.requires, empty_first c.args.table.now _ _)

pub returns-then-table-at-eq0 : goal.returns-then-table-at-eq0
returns-then-table-at-eq0 c =
    (sym (empty_here c.args.table.now _ _ _ c.loop-test.true c.if-table-at-eq0.true) ∙ c.loop.invariant.1, c.loop.invariant.0)

pub loop-preserved : goal.loop-preserved
loop-preserved c =
    (c.next_slot-at.ensures.1, empty_on c.args.table.now _ _ _ c.loop-test.true c.next_slot-at.ensures.0 c.if-table-at-eq0.false ∙ c.loop.invariant.1)

pub returns : goal.returns
returns c =
    (sym (empty_none c.args.table.now _ _ _ c.loop-test.false) ∙ c.loop.invariant.1, c.loop.invariant.0)
