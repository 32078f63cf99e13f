use Rattle.std.proofs.Common.{sym, ap, ◌∙◌}
use Rattle.output.specs.Answer.{merge_told}
use Rattle.answers.specs.Answers.{merge_answer, merge_back}
use Rattle.exports.proofs.aozora_merge.Goals as goal

pub returns : goal.returns
returns c =
    let back = merge_back _ c.from.ensures in
    (merge_told back c.merge-merged.ensures, c.from.ensures ∙ ap merge_answer (sym back))
