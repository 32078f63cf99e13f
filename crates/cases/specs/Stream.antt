-- The parts of a case, at the front of what is left of the input.
use Rattle.std.specs.Prelude.{◌≡◌, List, [], ℕ, ◌<◌, None, Some, length, take, drop}
use Rattle.std.proofs.Common.{arith, length-drop}
use Rattle.std.specs.declared.option.Option.{Option}
use Rattle.model.specs.Bytes.{word_at}
use Rattle.cases.specs.declared.Case.{Case}
use Rattle.cases.specs.declared.Cases.{Cases}

abbrev pub left : Cases → List ℕ
left s = s.0.now

-- six words; then label, tape, bytes, replacement
abbrev pub head_at : List ℕ → List ℕ
head_at s = take 24 s

abbrev pub label_on : List ℕ → List ℕ
label_on s = drop 24 s

abbrev pub tape_on : List ℕ → List ℕ
tape_on s = drop (word_at (head_at s) 0) (label_on s)

abbrev pub bytes_on : List ℕ → List ℕ
bytes_on s = drop (word_at (head_at s) 4) (tape_on s)

abbrev pub replacement_on : List ℕ → List ℕ
replacement_on s = drop (word_at (head_at s) 8) (bytes_on s)

abbrev pub next_on : List ℕ → List ℕ
next_on s = drop (word_at (head_at s) 20) (replacement_on s)

-- the case at the front of s, and what is left behind it
pub record IsCase (s : List ℕ) (c : Case) (rest : List ℕ) : Type 0 where
  pub label : c.label.now ≡ take (word_at (head_at s) 0) (label_on s)
  pub tape : c.tape.now ≡ take (word_at (head_at s) 4) (tape_on s)
  pub bytes : c.bytes.now ≡ take (word_at (head_at s) 8) (bytes_on s)
  pub start : c.start ≡ word_at (head_at s) 12
  pub end : c.end ≡ word_at (head_at s) 16
  pub replacement : c.replacement.now ≡ take (word_at (head_at s) 20) (replacement_on s)
  pub behind : rest ≡ next_on s

-- each case in its turn, while a byte is left
abbrev pub GivesCase : Cases → Option Case → Cases → Type 0
GivesCase old None new = (left old ≡ []) × (left new ≡ [])
GivesCase old (Some c) new = IsCase (left old) c (left new)

-- a case takes a byte at least, where there is one: the cases end
pub next_shorter : (s : List ℕ) → 0 < length s → length (next_on s) < length s
next_shorter s h = simp length-drop (omega arith)
