use Rattle.std.proofs.Common.{◌∙◌, rules}
use lib.ListN.{length}
use mir.Syntax.{w64}
use mir.Val.{SFits}
use mir.ValLaws.{to_z-of_z}
use Rattle.fitting.specs.Window.{window_made}
use Rattle.fitting.proofs.window.Goals as goal

pub returns : goal.returns
returns c =
    let e = c.args.edit.now in
    let f : SFits w64 c.difference.result = search rules in
    let g : SFits w64 c.difference-2.result = search rules in
    window_made _ _ _ _ (length e.replacement.now) e.start.0 e.end.0 c.args.normalized.0
    (to_z-of_z w64 _ f ∙ c.difference.ensures) (to_z-of_z w64 _ g ∙ c.difference-2.ensures)
