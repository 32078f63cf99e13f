use mathlib.Core.Path.{sym, ap, ◌∙◌}
use Prim.Native.Nat.{ℕ}
use lib.ListN.{take}
use lib.Seq.{length-take-le}
use Rattle.inspect.proofs.answer_read.Goals as goal

pub slice_bounds-read-end : goal.slice_bounds-read-end
slice_bounds-read-end c =
    sym (length-take-le _ _ c.requires.1)

pub returns : goal.returns
returns c = λ s e. c.read.ensures s (sym (ap (λ (k : ℕ). take k s) c.requires.0) ∙ e)
