-- The line that is printed.
use Rattle.std.specs.Prelude.{◌≡◌, refl, ℕ, Result, Ok, Err}
use Rattle.std.proofs.Common.{ap, ◌∙◌}
use mathlib.Core.List.{List, [], ◌++◌, flatten, append_assoc, append-nil}
use Rattle.model.specs.Lists.{ascii}
use Rattle.model.specs.Refusal.{Checked, Checked.refused, Checked.accepted}
use Rattle.model.specs.Merge.{IncrementalOutput}
use Rattle.model.specs.Runs.{decimal, line, program}
use Rattle.lines.specs.Text.{numbered, refused_line}
use Rattle.output.specs.Answer.{output_of, output_value}
use Rattle.output.specs.declared.IncrementalOutput.{IncrementalOutput as Output}

-- P5's line
unfoldable pub accepted_line : Output → List ℕ
accepted_line r =
    ((((((numbered (ascii "region ") r.start ++ numbered (ascii " ") r.end) ++ numbered (ascii " reused ") r.reused) ++ numbered (ascii " reread ") r.reread)
    ++ numbered (ascii " calls ") r.stats.calls) ++ numbered (ascii " probes ") r.stats.probe_steps) ++ ascii "\n")

-- an answer, refused by whichever number
abbrev pub told : Result Output ℕ → Checked Output
told (Ok a) = accepted a
told (Err n) = refused n

-- the line of an answer
unfoldable pub line_of : Checked Output → List ℕ
line_of (refused n) = refused_line n
line_of (accepted r) = accepted_line r

flat : (a b c d e f g h i j k l m : List ℕ)
    → ((((((a ++ b) ++ (c ++ d)) ++ (e ++ f)) ++ (g ++ h)) ++ (i ++ j)) ++ (k ++ l)) ++ m ≡ a ++ (b ++ (c ++ (d ++ (e ++ (f ++ (g ++ (h ++ (i ++ (j ++ (k ++ (l ++ (m ++ []))))))))))))
flat a b c d e f g h i j k l m = simp (append_assoc, append-nil)

-- It is the model's line of what the program answers.
line_is : (x : Checked IncrementalOutput) → line_of (output_of x) ≡ line x
unfolding line_of accepted_line refused_line numbered output_value line flatten
line_is (refused n) = append_assoc (ascii "refused ") (decimal n) (ascii "\n")
line_is (accepted m) =
    flat (ascii "region ") (decimal m.region.start) (ascii " ") (decimal m.region.end) (ascii " reused ") (decimal m.reused_nodes) (ascii " reread ") (decimal m.reparsed_nodes)
    (ascii " calls ") (decimal m.stats.calls) (ascii " probes ") (decimal m.stats.probe_steps) (ascii "\n")

pub program_line : (s : List ℕ) {r : Checked Output} → r ≡ output_of (program s) → {l : List ℕ} → l ≡ line_of r → l ≡ line (program s)
program_line s e q = q ∙ ap line_of e ∙ line_is (program s)
