use Rattle.cuts.specs.Window.{no_window, window_gone}
use Rattle.cuts.proofs.no_window.Goals as goal

pub returns-then-words-ge2 : goal.returns-then-words-ge2
returns-then-words-ge2 c = λ ps. window_gone ps c.args.words.now c.if-words-ge2.true

pub returns-else-words-ge2 : goal.returns-else-words-ge2
returns-else-words-ge2 c = λ ps. no_window ps _ c.if-words-ge2.false
