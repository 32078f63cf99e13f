use mathlib.Core.Path.{ap, ◌∙◌}
use Rattle.model.specs.Bytes.{zeros}
use Rattle.estimate.proofs.estimate.Goals as goal

pub returns : goal.returns
returns c =
    let at-estimate = c in
    (at-estimate.estimate_stored-r.ensures, c.zero_words.ensures ∙ ap zeros at-estimate.estimate_stored-r.auto.work)
