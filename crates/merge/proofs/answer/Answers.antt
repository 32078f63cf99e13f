use Rattle.std.proofs.Common.{sym, ap, ◌∙◌}
use Rattle.refusal.specs.Refusal.{handed_on}
use Rattle.output.specs.Answer.{output_of}
use Rattle.runs.specs.Input.{input_refused, input_asks, input_whole}
use Rattle.merge.proofs.answer.Goals as goal

pub returns-in_err-check_input : goal.returns-in_err-check_input
returns-in_err-check_input c =
    rw (handed_on _ c.from_residual.ensures.1) (input_refused _ _ c.in_err-check_input.ensures)

pub merge_parts-requires : goal.merge_parts-requires
merge_parts-requires c =
    input_whole _ c.in_ok-check_input.ensures

pub returns : goal.returns
returns c =
    c.merge_parts.ensures ∙ ap output_of (sym (input_asks _ c.in_ok-check_input.ensures))
