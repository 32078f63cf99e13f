use Rattle.lines.specs.Put.{put_both}
use Rattle.lines.specs.Text.{refused_line}
use Rattle.lines.proofs.Line.put_refused.Goals as goal

pub returns : goal.returns
unfolding refused_line
returns c = rw (← c.from.ensures) (put_both c.put_number.ensures c.put_text.ensures)
