use Rattle.tape.specs.Numbers.{levels_pass, pools_four, pools_five, pools_pass}
use mathlib.Core.Path.{sym, ◌∙◌}
use Rattle.tape.proofs.check_pools.Goals as goal

pub returns-then-not-ids_ok : goal.returns-then-not-ids_ok
returns-then-not-ids_ok c =
    λ d. pools_four _ (sym (c.ids_ok.ensures d) ∙ c.if-not-ids_ok.true)

pub returns-then-not-levels_ok : goal.returns-then-not-levels_ok
returns-then-not-levels_ok c =
    λ d. pools_five _ (sym (c.ids_ok.ensures d) ∙ c.if-not-ids_ok.false) (levels_pass _ _ c.requires.0.stored c.ids_ok.ensures c.if-not-ids_ok.false c.levels_ok.ensures d ∙ c.if-not-levels_ok.true)

pub returns : goal.returns
returns c =
    λ d. pools_pass _ (sym (c.ids_ok.ensures d) ∙ c.if-not-ids_ok.false) (levels_pass _ _ c.requires.0.stored c.ids_ok.ensures c.if-not-ids_ok.false c.levels_ok.ensures d ∙ c.if-not-levels_ok.false)
