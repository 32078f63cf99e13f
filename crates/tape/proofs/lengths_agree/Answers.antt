use Rattle.tape.specs.Placed.{shorter_no, shorter, longer_no, longer}
use Rattle.tape.proofs.lengths_agree.Goals as goal

pub returns-then-spans-images : goal.returns-then-spans-images
returns-then-spans-images c =
    shorter_no _ _ _ _ c.if-normalized-text.true c.if-spans-images.true

pub returns-then-normalized-text : goal.returns-then-normalized-text
returns-then-normalized-text c =
    shorter _ _ _ _ c.if-normalized-text.true c.if-spans-images.false

pub returns-then-images-spans : goal.returns-then-images-spans
returns-then-images-spans c =
    longer_no _ _ _ _ c.if-normalized-text.false c.if-images-spans.true

pub returns : goal.returns
returns c =
    longer _ _ _ _ c.if-normalized-text.false c.if-images-spans.false
