-- What a line shows beside strings: labels and numbers.
use Rattle.std.specs.Prelude.{ℕ, List, ◌++◌}
use Rattle.model.specs.Lists.{ascii}
use Rattle.model.specs.Runs.{decimal}

-- a label and a number
unfoldable pub numbered : List ℕ → ℕ → List ℕ
numbered label n = label ++ decimal n

-- the line of a refusal
unfoldable pub refused_line : ℕ → List ℕ
refused_line n = numbered (ascii "refused ") n ++ ascii "\n"
