use Rattle.places.specs.Runs.{eights_none, eights_more, eights_done}
use mathlib.Core.Path.{sym, ◌∙◌}
use Rattle.places.proofs.eights_at.Goals as goal

pub returns-then-tape-at : goal.returns-then-tape-at
returns-then-tape-at c =
    eights_done (eights_none _ _ _ _)

pub loop-place-init : goal.loop-place-init
loop-place-init c =
    eights_none _ _ _ _

pub returns-then-not-eight_at : goal.returns-then-not-eight_at
returns-then-not-eight_at c =
    eights_done c.loop-place.invariant

pub loop-place-preserved : goal.loop-place-preserved
loop-place-preserved c =
    eights_more c.loop-place.invariant c.requires c.loop-place-test.true (sym c.eight_at.ensures ∙ c.if-not-eight_at.false)

pub returns : goal.returns
returns c =
    eights_done c.loop-place.invariant
