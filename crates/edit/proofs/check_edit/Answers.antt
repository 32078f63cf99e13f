use Rattle.edit.specs.Numbers.{edit_eight, edit_two, edit_facts, edit_three, edit_nine, edit_pass, within_facts}
use Rattle.std.proofs.Common.{sym, ◌∙◌}
use Rattle.edit.proofs.check_edit.Goals as goal

pub returns-then-not-edit_ok : goal.returns-then-not-edit_ok
returns-then-not-edit_ok c =
    edit_eight _ _ _ _ c.edit_ok.ensures c.if-not-edit_ok.true

pub returns-then-not-is_utf8 : goal.returns-then-not-is_utf8
returns-then-not-is_utf8 c =
    edit_two _ _ _ _ c.edit_ok.ensures c.if-not-edit_ok.false c.is_utf8.ensures c.if-not-is_utf8.true

pub length_fits-requires : goal.length_fits-requires
length_fits-requires c =
    edit_facts _ _ _ _ c.edit_ok.ensures c.if-not-edit_ok.false c.is_utf8.ensures c.requires

pub returns-then-not-length_fits : goal.returns-then-not-length_fits
returns-then-not-length_fits c =
    edit_three _ _ _ _ c.edit_ok.ensures c.if-not-edit_ok.false c.is_utf8.ensures c.if-not-is_utf8.false c.length_fits.ensures c.if-not-length_fits.true

pub unchanged-requires : goal.unchanged-requires
unchanged-requires c =
    within_facts _ _ _ (sym c.edit_ok.ensures ∙ c.if-not-edit_ok.false)

pub returns-then-unchanged : goal.returns-then-unchanged
returns-then-unchanged c =
    edit_nine _ _ _ _ c.edit_ok.ensures c.if-not-edit_ok.false c.is_utf8.ensures c.if-not-is_utf8.false c.length_fits.ensures c.if-not-length_fits.false c.unchanged.ensures c.if-unchanged.true

pub returns : goal.returns
returns c =
    edit_pass _ _ _ _ c.edit_ok.ensures c.if-not-edit_ok.false c.is_utf8.ensures c.if-not-is_utf8.false c.length_fits.ensures c.if-not-length_fits.false c.unchanged.ensures c.if-unchanged.false
