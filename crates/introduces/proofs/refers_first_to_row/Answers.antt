use Rattle.introduces.specs.Rows.{target_again_lem}
use Rattle.introduces.proofs.refers_first_to_row.Goals as goal

pub returns-then-is_target_again : goal.returns-then-is_target_again
returns-then-is_target_again c =
    target_again_lem _ c.args.reading.now.strings c.args.reading.now.run.at _ _ c.is_target_again.ensures c.if-is_target_again.true c.requires.missed
