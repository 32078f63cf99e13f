use Rattle.utf8.specs.Skips.{step_skipped, step_char}
use Rattle.utf8.proofs.step_len.Goals as goal

pub returns-then-at-end : goal.returns-then-at-end
returns-then-at-end c =
    step_skipped c.run_end-end.ensures c.if-at-end.true

pub returns : goal.returns
returns c =
    step_char c.args.s.now c.args.at c.requires {r = c.char_len.result} c.char_len.ensures
