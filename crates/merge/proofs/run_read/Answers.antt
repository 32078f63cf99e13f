use mathlib.Core.Path.{sym, ap, ◌∙◌}
use Prim.Native.Nat.{ℕ}
use mathlib.Core.List.{List}
use lib.ListN.{take}
use lib.Seq.{length-take-le}
use native.Mathlib.Omega.{arith}
use Rattle.model.specs.Runs.{program, line}
use Rattle.lines.specs.Put.{put_as}
use Rattle.runs.specs.Input.{program_cut}
use borrow.Author.Rules.{rules}
use Rattle.merge.proofs.run_read.Goals as goal

pub slice_bounds-run-end : goal.slice_bounds-run-end
slice_bounds-run-end c =
    sym (length-take-le _ _ (search rules))

pub returns : goal.returns
returns c =
    λ s e.
    put_as c.run.ensures (omega arith)
    (ap (λ (l : List ℕ). line (program l)) (sym e ∙ ap (λ (k : ℕ). take k s) c.requires.input_len.0) ∙ ap line (program_cut s))
