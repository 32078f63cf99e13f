use Rattle.std.proofs.Common.{sym, ap, ◌∙◌}
use Rattle.desk.specs.Charging.{desk_told}
use Rattle.answers.specs.Answers.{merge_answer, merge_back}
use Rattle.exports.proofs.aozora_merge_for_desk.Goals as goal

pub returns : goal.returns
returns c =
    let back = merge_back _ c.from.ensures in
    (desk_told back c.merge_for_desk-merged.ensures, c.from.ensures ∙ ap merge_answer (sym back))
