-- 'Runs': the input of the program `merge` and the line that it prints.
use Rattle.std.specs.Prelude.{ℕ, zero, suc, ◌+◌, ◌/◌, ◌%◌, cond, not, length, leb, ltb, eqb}
use mathlib.Core.List.{List, [], ◌∷◌, ◌++◌, flatten}
use Rattle.model.specs.Lists.{all, sum, ascii}
use Rattle.model.specs.Limits.{max_part, min_work_words}
use Rattle.model.specs.Bytes.{word_at, part}
use Rattle.model.specs.Refusal.{Checked, Checked.refused, Checked.accepted, ◌>>=◌, refuse◌if◌}
use Rattle.model.specs.Merge.{Room, IncrementalOutput, merge}

-- ---- the input: seven words, then five parts

-- the lengths of the five parts: old tape, old bytes, replacement, reading tape, reading bytes
unfoldable pub part_lengths : List ℕ → List ℕ
part_lengths s = word_at s 0 ∷ word_at s 4 ∷ word_at s 16 ∷ word_at s 20 ∷ word_at s 24 ∷ []

-- Its result buffers hold 65536 bytes each, its work 16384 words.
abbrev pub program_room : Room
program_room = record { tape_bytes = max_part; text_bytes = max_part; work_words = min_work_words }

-- the merge that an input of the right length asks for
unfoldable pub asked : List ℕ → Checked IncrementalOutput
asked s =
    let oldTape = word_at s 0 in
    let oldBytes = word_at s 4 in
    let replacement = word_at s 16 in
    let newTape = word_at s 20 in
    let newBytes = word_at s 24 in
    let p : ℕ = 28 in
    let q = p + oldTape + oldBytes in
    let r = q + replacement in
    merge
    (record { tape = part s p oldTape; bytes = part s (p + oldTape) oldBytes })
    (record { start = word_at s 8; end = word_at s 12; replacement = part s q replacement })
    (record { tape = part s r newTape; bytes = part s (r + newTape) newBytes })
    program_room

-- Fewer than seven words: 1. Each part at most 65536 bytes (else 3, tested once the seven are read). Short or surplus input: 1.
-- All precede all else.
unfoldable pub program : List ℕ → Checked IncrementalOutput
program s = do
  _ ← refuse 1 if ltb (length s) 28
  _ ← refuse 3 if not (all (λ n. leb n max_part) (part_lengths s))
  _ ← refuse 1 if not (eqb (length s) (28 + sum (part_lengths s)))
  asked s

-- ---- the line

-- decimal digits; `n` bounds how many there are
unfoldable pub digits_before : ℕ → ℕ → List ℕ → List ℕ
digits_before zero x behind = behind
digits_before (suc n) x behind =
    let more = digits_before n (x / 10) ((48 + x % 10) ∷ behind) in
    cond (ltb x 10) ((48 + x % 10) ∷ behind) more

unfoldable pub decimal : ℕ → List ℕ
decimal x = digits_before (suc x) x []

-- `refused N`, or the line of P5 (region start, end; kept, reread nodes; intern calls, slots probed), and a newline.
unfoldable pub line : Checked IncrementalOutput → List ℕ
line (refused n) = ascii "refused " ++ (decimal n ++ ascii "\n")
line (accepted m) = flatten (
    ascii "region " ∷ decimal m.region.start ∷ ascii " " ∷ decimal m.region.end
    ∷ ascii " reused " ∷ decimal m.reused_nodes ∷ ascii " reread " ∷ decimal m.reparsed_nodes
    ∷ ascii " calls " ∷ decimal m.stats.calls ∷ ascii " probes " ∷ decimal m.stats.probe_steps ∷ ascii "\n" ∷ [])
