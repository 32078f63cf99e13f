use Rattle.std.proofs.Common.{ℕ, ◌≡◌, get_or, true, refl, ◌∙◌, rules}
use Rattle.wire.proofs.Ranges.{range_all}
use Rattle.records.specs.Uses.{use_fits, use_among, other_uses}
use Rattle.records.proofs.Uses.{uses_for, uses_told, uses_not_told, words_fit_for}
use Rattle.records.proofs.words_fit.Goals as goal
use Rattle.records.proofs.words_fit.Goals.{then-used, else-used}

pub returns : goal.returns
unfolding other_uses
returns c =
    let a = c.args in
    let same : c.if-used.uses ≡ uses_for a.used a.kind a.tag =
    elim c.if-used.branch [
      | then-used w ↦ uses_told _ _ _ _ w.if-used.true (w.uses-is ∙ w.uses_of-uses.ensures)
      | else-used w ↦ uses_not_told _ _ _ _ w.if-used.false w.uses-is
    ] in
    range_all _ _ _ _ (λ (i : ℕ). use_fits true (use_among c.if-used.uses i) (get_or a.words i 0)) refl (λ x b q k. search rules) _ c.all.ensures.ran
    ∙ words_fit_for a.used a.kind a.tag a.words (search rules) _ same
