use Rattle.std.proofs.Common.{refl, sym, ◌∙◌}
use Rattle.cuts.specs.Depths.{closes_unopened, block_unopened, warichu_unopened}
use Rattle.cuts.proofs.Depths.closes_unopened.Goals as goal

pub returns-then-is_unopened : goal.returns-then-is_unopened
unfolding closes_unopened
returns-then-is_unopened c =
    let e = sym (block_unopened _ _) ∙ rw c.block_effect.ensures at (sym c.is_unopened.ensures) ∙ c.if-is_unopened.true in
    c.if-is_unopened.true ∙ rw e refl

pub returns-else-is_unopened : goal.returns-else-is_unopened
unfolding closes_unopened
returns-else-is_unopened c =
    let e = sym (block_unopened _ _) ∙ rw c.block_effect.ensures at (sym c.is_unopened.ensures) ∙ c.if-is_unopened.false in
    rw e (c.is_unopened-else-is_unopened.ensures ∙ rw c.warichu_effect.ensures (warichu_unopened _ _))
